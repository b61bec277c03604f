-- Laws of the locals.
use Rattle.paper.proofs.Kit.{ℕ, zero, suc, ◌%◌, Bool, true, false, ◌&&◌, ◌||◌, eqb, leb, leb-false, or-true, List, [], ◌∷◌, ◌≡◌, ◌∙◌, refl, ap, sym, arith, get_or, set, replicate}
use Rattle.std.specs.List.{fold}
use Rattle.paper.specs.Deck.{LocalCell, no_local, local_at, all_words}
use Rattle.book.specs.declared.locals.Local.{Local}
use Rattle.book.specs.Kept.{local_of, locals_of, unmentioned}

-- a local read and written
pub local-at : (l : List Local) (n : ℕ) → local_at (locals_of l) n ≡ local_of (get_or l n unmentioned)
local-at [] n = refl
local-at (x ∷ l) zero = refl
local-at (x ∷ l) (suc n) = local-at l n

pub local-set : (l : List Local) (n : ℕ) (x : Local) → locals_of (set l n x) ≡ set (locals_of l) n (local_of x)
local-set [] n x = refl
local-set (y ∷ l) zero x = refl
local-set (y ∷ l) (suc n) x = ap (λ (ls : List LocalCell). local_of y ∷ ls) (local-set l n x)

pub local-none : (n : ℕ) → locals_of (replicate n unmentioned) ≡ replicate n no_local
local-none zero = refl
local-none (suc n) = ap (λ (ls : List LocalCell). no_local ∷ ls) (local-none n)

-- the test of the code is that of the definition
abbrev pub fine : Local → Bool
fine x = eqb x.bits 0 || leb 65536 x.bits

same_test : (x : Local) → fine x ≡ (eqb (local_of x).cell 0 || (local_of x).has_word)
same_test x = go (leb 65536 x.bits) refl
  where
    go : (t : Bool) → leb 65536 x.bits ≡ t → (eqb x.bits 0 || t) ≡ (eqb (x.bits % 65536) 0 || t)
    go true e = or-true (eqb x.bits 0) ∙ sym (or-true (eqb (x.bits % 65536) 0))
    go false e = let f : x.bits % 65536 ≡ x.bits = omega (arith, leb-false 65536 x.bits e) in rw f

-- whether all have words, those before them told
pub words-all : (b : Bool) (l : List Local) → fold (λ all x. all && fine x) b l ≡ b && all_words (locals_of l)
unfolding all_words
words-all true [] = refl
words-all false [] = refl
words-all true (x ∷ l) = words-all (fine x) l ∙ ap (λ (b : Bool). b && all_words (locals_of l)) (same_test x)
words-all false (x ∷ l) = words-all false l

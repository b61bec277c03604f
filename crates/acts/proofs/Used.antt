-- A cell that is touched, by what the code has found out of it, in the form in which `search touching` finds the proof of a way out.
use Rattle.paper.proofs.Kit.{clash, ◌||◌, ℕ, ◌<◌, ◌≡◌, refl, ap, ◌∙◌, sym, ◌≢◌, Bool, true, false, List, arith, eqb, ne_eqb}
use Rattle.std.specs.Prelude.{Result, Ok, Err}
use Rattle.paper.specs.declared.Refusal.{Refusal}
use Rattle.paper.specs.declared.Refusal.TheVariants.{CellZero, FreeCell, OwnCell}
use Rattle.paper.specs.Cell.{Word, Cell, free, word, term, process, is_free, is_word, is_term, State}
use Rattle.paper.specs.Act.{Act, Res, done, refused, ◌>>=◌, ◌>>◌, ret, refuse_if, touch, target, word_at, word_to, not_own}
use Rattle.paper.proofs.SoundStore.{never}
use Rattle.cells.specs.Bridge.{Rest, cell_in}
use Rattle.steps.specs.Follows.{Follows, seen_as}
use Rattle.steps.specs.Follows as steps
use Rattle.steps.proofs.Steps.{bind-same, bind-bind, then-bind}
use Rattle.steps.proofs.Sequence.{Judged, bind, bind_err, give}
use Rattle.undo.specs.Did.{reading}
use Rattle.acts.specs.Named.{named_to}
use Rattle.undo.proofs.Auto.{lines, r_peek, l-test, l-test-err, t-fails-as, t-fails-eq, t-passes, t-passes-eq}

-- words and data terms are in use
word-used : (x : Cell) → is_word x ≡ true → is_free x ≡ false
word-used (free l) h = never _ h refl
word-used (word w) h = refl
word-used (term t) h = refl
word-used process h = refl

term-used : (x : Cell) → is_term x ≡ true → is_free x ≡ false
term-used (free l) h = never _ h refl
term-used (word w) h = refl
term-used (term t) h = refl
term-used process h = refl

module _ {B : Type 0} {K : Rest → Type 0} {s : List ℕ} (c : ℕ) (g : Cell → Act B) where
  pub r-zero : c ≡ 0 → Follows reading K 0 (touch c >>= g) s s (Err CellZero)
  unfolding touch
  r-zero z = bind_err g (l-test-err _ _ (t-fails-eq CellZero c 0 z))

  pub r-free : (x : Cell) (p : Bool) → cell_in s c ≡ x → c ≢ 0 → p ≡ is_free x → p ≡ true → Follows reading K 0 (touch c >>= g) s s (Err (FreeCell c))
  unfolding touch
  r-free x p e z q f = bind_err g (l-test _ _ (t-passes-eq CellZero c 0 z) (r_peek _ c x e (l-test-err _ _ (t-fails-as (FreeCell c) p (is_free x) q f))))

module _ {B : Type 0} {K : Rest → Type 0} {s : List ℕ} {r : Result B Refusal} (c : ℕ) (g : Cell → Act B) (x : Cell) (p : Bool) where
  used : cell_in s c ≡ x → c ≢ 0 → is_free x ≡ false → Follows reading K 0 (g x) s s r → Follows reading K 0 (touch c >>= g) s s r
  unfolding touch
  used e z f d = bind g (l-test _ _ (t-passes-eq CellZero c 0 z) (r_peek _ c x e (l-test _ _ (t-passes (FreeCell c) (is_free x) f) give))) d

  pub r-used : cell_in s c ≡ x → c ≢ 0 → p ≡ is_free x → p ≡ false → Follows reading K 0 (g x) s s r → Follows reading K 0 (touch c >>= g) s s r
  r-used e z q f d = used e z (sym q ∙ f) d

  pub r-word : cell_in s c ≡ x → c ≢ 0 → p ≡ is_word x → p ≡ true → Follows reading K 0 (g x) s s r → Follows reading K 0 (touch c >>= g) s s r
  r-word e z q f d = used e z (word-used x (sym q ∙ f)) d

  pub r-term : cell_in s c ≡ x → c ≢ 0 → p ≡ is_term x → p ≡ true → Follows reading K 0 (g x) s s r → Follows reading K 0 (touch c >>= g) s s r
  r-term e z q f d = used e z (term-used x (sym q ∙ f)) d

-- a cell to be written: H3 is refused whatever it holds, any other is one that is touched
never_done : {A : Type 0} (q : Res State Refusal A) (z : Refusal) (v : A) (t : State) → ◌≡◌ {A = Res State Refusal A}
    (elim q as (λ _. Res State Refusal A) [ done x u ↦ refused z | refused e ↦ refused e ]) (done v t) → ⊥
never_done (done x u) z v t p = clash cc
never_done (refused e) z v t p = clash cc

H3-refused : (t t' : State) (v : Cell) → target 4 t ≡ done v t' → ⊥
unfolding ◌>>◌ ◌>>=◌ ret refuse_if target
H3-refused t t' v p = never_done (touch 4 t) (OwnCell 4) v t' p

as-touched : (c : ℕ) → c ≢ 4 → (t : State) → target c t ≡ touch c t
unfolding target ◌>>◌ ◌>>=◌ ret refuse_if
as-touched c n t = rw (ne_eqb c 4 n) (same (touch c t))
  where
    same : (q : Res State Refusal Cell) → ◌≡◌ {A = Res State Refusal Cell}
        (elim q as (λ _. Res State Refusal Cell) [ done x u ↦ done x u | refused e ↦ refused e ]) q
    same (done x u) = refl
    same (refused e) = refl

module _ {A B : Type 0} {K : Rest → Type 0} {s : List ℕ} (c : ℕ) (g : Cell → Act A) (f : B → A) (n : B → Cell) where
  pub r-tally : (r : Result B Refusal) → c ≡ 4 → Follows reading K 0 (target c) s s (seen_as n r)
      → Follows reading K 0 (target c >>= g) s s (seen_as f r)
  r-tally (Err z) e d = bind_err g d
  r-tally (Ok v) e d = record { is = λ w k. absurd (H3-refused _ _ (n v) (rw e at (d.is w k))); kept = tt }

module _ {B : Type 0} {K : Rest → Type 0} {s : List ℕ} (c : ℕ) (g : Cell → Act B) where
  pub r-other : {r : Result B Refusal} → c ≢ 4 → Follows reading K 0 (touch c >>= g) s s r → Follows reading K 0 (target c >>= g) s s r
  r-other n d = record { is = λ w k. bind-same (target c) (touch c) g _ _ (as-touched c n _) ∙ d.is w k; kept = tt }

-- past H3 a word that is named, to be written, is met like any word
module _ (c : ℕ) (far : 4 < c) where
  passes : Judged {S = State} steps.Always (not_own c) (Ok tt)
  unfolding not_own
  passes = t-passes (OwnCell c) (eqb c 2 || eqb c 3) (rw (ne_eqb c 2 (omega arith), ne_eqb c 3 (omega arith)))

  pub r-far : {K : Rest → Type 0} {s : List ℕ} (r : Result ℕ Refusal) (f : ℕ → Word) → Follows reading K 0 (word_at c) s s (seen_as f r)
      → Follows reading K 0 (named_to c) s s (seen_as f r)
  unfolding named_to word_to word_at
  r-far (Ok v) f d = bind _ {j = 0} (r-other c _ (omega arith) d) (l-test _ _ passes give)
  r-far (Err z) f d = bind_err _ (r-other c _ (omega arith) d)

-- the checks of a preserve are this block
pub named-then : {B : Type 0} (c : ℕ) (g : Word → Act B) → (named_to c >>= g) ≡ (word_to c >>= (λ w. not_own c >> g w))
unfolding named_to ret ◌>>=◌
named-then c g = bind-bind g (word_to c) (λ w. not_own c >> ret w) ∙ ap (λ h. word_to c >>= h) (λ i w. then-bind g (not_own c) (ret w) i)

pub ruleset touching = (lines, r-zero, r-free, r-used, r-word, r-term)

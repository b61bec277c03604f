-- Laws of a part of a cycle: one that prints nothing, one before or after another.
use Rattle.paper.proofs.Kit.{ℕ, ◌-◌, ◌≤◌, ◌≡◌, sym, subst, ◌∙◌, List, [], arith, length, get_or}
use Rattle.std.specs.Prelude.{Result}
use Rattle.paper.specs.declared.Refusal.{Refusal}
use Rattle.paper.specs.Cell.{Region}
use Rattle.paper.specs.Act.{Act}
use Rattle.cells.specs.Bridge.{Rest}
use Rattle.steps.specs.Follows.{Follows}
use Rattle.steps.proofs.Sequence.{most}
use Rattle.regions.specs.Lent.{Tells}
use Rattle.undo.specs.Did.{Top, lent}
use Rattle.printing.specs.Telling.{Heard, after, Hears, telling, line_in, end_of, Printing}
use Rattle.printing.proofs.TellingLaws.{quietly, ending}
use Rattle.printing.proofs.PrintingLaws.{stands-none}
use Rattle.cycle.specs.Reaches.{Reaches}

-- where the regions end, as the table tells
pub told-top : {t : List ℕ} {rs : List Region} {n top : ℕ} (u : List ℕ) → Tells t rs → top ≡ get_or t 0 0 → (e : Heard) → Hears rs n e → Top top (after e u)
told-top u k p e h = ending u (sym k.top ∙ sym p) e h

no_bytes : (d : List ℕ) (at n : ℕ) → n ≡ at → [] ≡ line_in d at n
no_bytes d at n p = let z : n - at ≡ 0 = omega arith in rw z

-- what only reads or writes cells
module _ {A : Type 0} (t : List ℕ) {k : ℕ} {M : Act A} {x y : List ℕ × List ℕ} {r : Result A Refusal} (d : List ℕ) (at : ℕ) (within : at ≤ length d)
    (e : Result ℕ Refusal) (ended : end_of at e ≡ at)
  where
    pub part-quiet : {top : ℕ} → top ≡ get_or t 0 0 → Follows lent (Top top) k M x y r → Printing t k M x d at y d e r
    part-quiet p f =
        record {
          follows = λ rs h. subst (λ u. Follows telling (Hears rs (length d - at)) k M (x, []) (y, u) r) (no_bytes d at (end_of at e) ended)
              (quietly [] (told-top [] h p) f);
          stands = stands-none d at e ended within;
        }

-- the same line, of another block
module _ {A B : Type 0} {t : List ℕ} {k j : ℕ} {M : Act A} {N : Act B} {x x' y y' : List ℕ
    × List ℕ} {d : List ℕ} {at : ℕ} {d' : List ℕ} {e : Result ℕ Refusal} {r : Result A Refusal} {q : Result B Refusal} where
  pub part-as : Printing t k M x d at y d' e r
      → ((rs : List Region) → Tells t rs → (line : List ℕ) → Follows telling (Hears rs (length d - at)) k M (x, []) (y, line) r
      → Follows telling (Hears rs (length d - at)) j N (x', []) (y', line) q)
      → Printing t j N x' d at y' d' e q
  part-as p f = record { follows = λ rs h. f rs h (line_in d' at (end_of at e)) (p.follows rs h); stands = p.stands }

-- J1 after J1, seen by what prints
pub reach-quietly : {A : Type 0} {K : Heard → Type 0} {J : Rest → Type 0} {k : ℕ} {M N : Act A} {x y : List ℕ × List ℕ} (u : List ℕ)
    → ((e : Heard) → K e → J (after e u)) → Reaches lent J k M N x y → Reaches telling K k M N (x, u) (y, u)
reach-quietly u w d = record { is = λ e h. d.is (after e u) (w e h); kept = d.kept }

module _ {A : Type 0} {t : List ℕ} {k : ℕ} {M : Act A} {x y : List ℕ × List ℕ} {d : List ℕ} {at : ℕ} {d' : List ℕ} {e : Result ℕ Refusal}
    {r : Result A Refusal}
  where
    -- more writes are allowed; another block that does the same
    pub part-most : (i : ℕ) → k ≤ i → Printing t k M x d at y d' e r → Printing t i M x d at y d' e r
    part-most i h p = part-as p (λ rs w line f. most i h f)

    pub part-alike : {N : Act A} → M ≡ N → Printing t k M x d at y d' e r → Printing t k N x d at y d' e r
    part-alike p f = subst (λ M. Printing t k M x d at y d' e r) p f

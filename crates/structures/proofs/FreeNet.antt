-- Releasing cells one after another is `free_all`, wherever there is an H2: what H2 holds in between is written over.
use Rattle.paper.proofs.Kit.{ℕ, ◌<◌, ◌≡◌, refl, sym, ap, ◌∙◌, Bool, true, false, List, [], ◌∷◌, eqb-true, eqb-false, eqb, length, set, length-set}
use Rattle.paper.proofs.Kit.{get_or-set_same, set-set, set_comm}
use Rattle.std.specs.Prelude.{Result}
use Rattle.paper.specs.declared.Refusal.{Refusal}
use Rattle.paper.specs.Cell.{State, Word, Cell, free, word, word_in, with_link, with_cells, cell_at}
use Rattle.paper.specs.Act.{done, ◌>>=◌, ◌>>◌, ret, own, put, release}
use Rattle.paper.specs.Walk.{release_all}
use Rattle.cells.specs.Bridge.{Rest, state_of}
use Rattle.cells.proofs.Store.{unpacked-length}
use Rattle.steps.specs.Follows.{Follows}
use Rattle.steps.proofs.Steps.{bind_ok, then_ok}
use Rattle.steps.proofs.Sequence.{alike-here}
use Rattle.undo.specs.Did.{lent}
use Rattle.structures.specs.Net.{free_from, free_all}

-- the cells that are left, and the link to the last of those freed
freed : List Cell → ℕ → List ℕ → List Cell
freed cs l [] = cs
freed cs l (c ∷ ns) = freed (set cs c (free l)) c ns

last_of : ℕ → List ℕ → ℕ
last_of l [] = l
last_of l (c ∷ ns) = last_of c ns

from_is : (ns : List ℕ) (l : ℕ) (s : State) → free_from l ns s ≡ done (last_of l ns) (with_cells s (freed s.cells l ns))
unfolding freed last_of free_from put ret ◌>>◌
from_is [] l s = refl
from_is (c ∷ ns) l s = from_is ns c (with_cells s (set s.cells c (free l)))

-- what H2 holds before is written over
over : (ns : List ℕ) (cs : List Cell) (l : ℕ) (x z : Cell) → set (freed (set cs 3 x) l ns) 3 z ≡ set (freed cs l ns) 3 z
unfolding freed
over [] cs l x z = set-set cs 3 x z
over (c ∷ ns) cs l x z = go (eqb c 3) refl (over ns (set cs c (free l)) c x z)
  where
    go : (b : Bool) → eqb c 3 ≡ b → set (freed (set (set cs c (free l)) 3 x) c ns) 3 z ≡ set (freed (set cs c (free l)) c ns) 3 z
        → set (freed (set (set cs 3 x) c (free l)) c ns) 3 z ≡ set (freed (set cs c (free l)) c ns) 3 z
    go true e k =
        ap (λ (t : List Cell). set (freed t c ns) 3 z)
        (ap (λ (d : ℕ). set (set cs 3 x) d (free l)) (eqb-true c 3 e) ∙ set-set cs 3 x (free l) ∙ ap (λ (d : ℕ). set cs d (free l)) (sym (eqb-true c 3 e)))
    go false e k = ap (λ (t : List Cell). set (freed t c ns) 3 z) (sym (set_comm cs c 3 (free l) x (eqb-false c 3 e))) ∙ k

-- the word in H2, and the cells in the end
abbrev top : State → Word
top s = word_in (cell_at s.cells 3)

abbrev ending : State → ℕ → List ℕ → List Cell
ending s c ns = set (freed s.cells (top s).link (c ∷ ns)) 3 (word (with_link (top s) (last_of c ns)))

after : State → ℕ → State
after s c = with_cells s (set (set s.cells c (free (top s).link)) 3 (word (with_link (top s) c)))

release-is : (c : ℕ) (s : State) → release c s ≡ done tt (after s c)
unfolding release own put after ◌>>=◌ ◌>>◌
release-is c s = refl

all_are : (ns : List ℕ) (c : ℕ) (s : State) → 3 < length s.cells → release_all (c ∷ ns) s ≡ done tt (with_cells s (ending s c ns))
unfolding release_all freed last_of ret after
all_are [] c s h = then_ok _ _ _ _ _ (release-is c s) refl
all_are (d ∷ ns) c s h =
    let X : List Cell = set s.cells c (free (top s).link) in
    let w : Word = with_link (top s) c in
    let e : cell_at (set X 3 (word w)) 3 ≡ word w = get_or-set_same X 3 (word w) (free 0) (simp length-set h) in
    then_ok _ _ _ _ _ (release-is c s)
    (all_are ns d (after s c) (simp length-set h)
    ∙ ap (λ (y : Cell). done tt (with_cells s (set (freed (set X 3 (word w)) (word_in y).link (d ∷ ns)) 3 (word (with_link (word_in y) (last_of d ns)))))) e
    ∙ ap (λ (t : List Cell). done tt (with_cells s t)) (over (d ∷ ns) X c (word w) (word (with_link (top s) (last_of d ns)))))

net-is : (ns : List ℕ) (c : ℕ) (s : State) → free_all (c ∷ ns) s ≡ done tt (with_cells s (ending s c ns))
unfolding free_all own put last_of
net-is ns c s = bind_ok _ _ _ _ _ refl (bind_ok _ _ _ _ _ (from_is (c ∷ ns) (top s).link s) refl)

-- carried to the numbers
pub free-net : {K : Rest → Type 0} {k : ℕ} (c : ℕ) (ns : List ℕ) {s l : List ℕ} {y : List ℕ × List ℕ} {r : Result (Unit {0}) Refusal} → 3 < length s
    → Follows lent K k (free_all (c ∷ ns)) (s, l) y r → Follows lent K k (release_all (c ∷ ns)) (s, l) y r
free-net c ns {s} h d =
    alike-here (λ e k. all_are ns c (state_of e s) (rw (unpacked-length s) h) ∙ sym (net-is ns c (state_of e s))) d

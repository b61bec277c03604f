-- The lines of a loader's block: a part of the book, a change of it, a test. How lines are joined is steps/proofs/Sequence.
use Rattle.paper.proofs.Kit.{◌||◌, ◌≡◌, refl, ap, sym, Bool, true, false, ℕ}
use Rattle.std.specs.Prelude.{Result, Ok, Err}
use Rattle.paper.specs.declared.Fault.{Fault}
use Rattle.paper.specs.Step.{Step, done, ◌>>◌, refuse_if, asks, becomes}
use Rattle.paper.specs.Deck.{Book, Load}
use Rattle.cells.specs.Pack.{AllFormed}
use Rattle.steps.specs.Follows.{World, Follows, Sees, Always, testing}
use Rattle.steps.proofs.Sequence.{Judged, test_of, then, then_err, alike, judged-no}
use Rattle.book.specs.Kept.{Held, book_of}
use Rattle.book.specs.Booked.{loading}

-- a part of the book; the same in a test
module _ {A : Type 0} where
  pub part : (f : Book → A) {h : Held} {v : A} → f (book_of h) ≡ v → Sees loading Always (asks f) h v
  unfolding asks
  part f {h} p = record { is = λ e k. ap (λ (x : A). done x (book_of h)) p }

  pub told_part : {K : Book → Type 0} (f : Book → A) {v : A} → ((t : Book) → K t → f t ≡ v) → Sees (testing Book Fault) K (asks f) tt v
  unfolding asks
  told_part f p = record { is = λ t k. ap (λ (x : A). done x t) (p t k) }

-- the book becomes another
pub changes : (f : Book → Book) (h h' : Held) → f (book_of h) ≡ book_of h' → (AllFormed h.numbers → AllFormed h'.numbers)
    → Follows loading Always 0 (becomes f) h h' (Ok tt)
unfolding becomes
changes f h h' p g = record { is = λ e k. ap (λ (x : Book). done tt x) p; kept = g }

-- a test of the book as it is
module _ {B : Type 0} {K : Book → Type 0} {M : Load (Unit {0})} {h : Held} where
  pub test_at : {N : Load B} {h' : Held} {r : Result B Fault} → Judged K M (Ok tt) → K (book_of h) → Follows loading Always 0 N h h' r
      → Follows loading Always 0 (M >> N) h h' r
  test_at d k f = test_of (λ e z. k) d f

  pub test_at_err : {c : Fault} (N : Load B) → Judged K M (Err c) → K (book_of h) → Follows loading Always 0 (M >> N) h h (Err c)
  test_at_err N d k = then_err N (record { is = λ e z. d.is (book_of h) k; kept = λ f. f })

-- one test of the code for two lines of the block: y counts where x does not refuse
pub or-tells : {K : Book → Type 0} (x y : Bool) (f : Fault) {N : Load (Unit {0})} {r : Result (Unit {0}) Fault} → Judged K (refuse_if (x || y) f) r
    → (Judged K (refuse_if y f) r → Judged K N r) → Judged K (refuse_if x f >> N) r
unfolding ◌>>◌ refuse_if
or-tells true y f d e = alike refl d
or-tells false y f d e = then (judged-no false f refl) (e d)

-- a block by the case of x, which is known to be y
pub by-case : {S E A B : Type 0} {W : World S E} {K : W.Rest → Type 0} {j : ℕ} {h h' : W.Held} {r : Result B E} (M : A → Step S E B)
    {x y : A} → x ≡ y → Follows W K j (M y) h h' r → Follows W K j (M x) h h' r
by-case M p d = alike (ap M (sym p)) d

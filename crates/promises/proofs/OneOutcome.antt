-- "For each input, a public call has one possible outcome: number, cycles, cells and every output byte. Show that any two outcomes
-- allowed by a contract coincide." A contract is an equation with a definition, and what equals the same is the same (`one-outcome` of
-- paper/proofs/Demand1): cited for each public call. Each statement can be read without its proof.
use Rattle.paper.proofs.Kit.{ℕ, ◌≡◌, sym, ap, ◌∙◌, Bool, List, none, some}
use Rattle.paper.specs.declared.RunAnswer.{RunAnswer}
use Rattle.paper.specs.Cell.{size_fits}
use Rattle.paper.specs.Act.{Act}
use Rattle.paper.specs.Plain.{preserve_h0}
use Rattle.paper.specs.Process.{J72, J74}
use Rattle.paper.specs.Program.{printout}
use Rattle.paper.proofs.Demand1.{one-outcome as same}
use Rattle.regions.specs.declared.Regions.{Regions}
use Rattle.std.specs.Prelude.{Result, Ok, Err}
use Rattle.sound.specs.Store.{store_sound}
use Rattle.sound.specs.Asked.{Asks}
use Rattle.sound.proofs.AskLaws.{fit}
use Rattle.deck.specs.declared.Loaded.{Loaded}
use Rattle.deck.specs.Load.{Loads}
use Rattle.machine.specs.declared.Ran.{Ran}
use Rattle.machine.specs.Numbers.{numbers as ran_numbers, run_on}
use Rattle.machine.proofs.Carried.{one-outcome as run-one}
use Rattle.desk.specs.declared.Printout.{Printout}
use Rattle.desk.specs.Page.{printed}
use Rattle.plain.specs.declared.Met.{Met}
use Rattle.plain.specs.Numbers.{Numbers, numbers, plain_on}
use Rattle.plain.specs.Walks.{walk_on}

-- deck::load: answer, table and every number
pub load-coincides : (deck s : List ℕ) {s₁ s₂ : List ℕ} {r₁ r₂ : Loaded} → Loads deck s s₁ r₁ → Loads deck s s₂ r₂ → (r₁ ≡ r₂) × (s₁ ≡ s₂)
load-coincides deck s p q =
    let a = same p.answer q.answer in
    let t = same p.table q.table in
    (λ i. record { answer = a i; regions = t i }, same p.numbers q.numbers)

-- machine::run: answer, cycles, length of the lines, every number and every byte
pub run-coincides : (regions : Regions) (budget : ℕ) (s out : List ℕ) {r₁ r₂ : Ran} {s₁ s₂ out₁ out₂ : List ℕ}
    → ran_numbers r₁ s₁ out₁ ≡ run_on regions budget s out
    → ran_numbers r₂ s₂ out₂ ≡ run_on regions budget s out
    → (r₁ ≡ r₂) × (s₁ ≡ s₂) × (out₁ ≡ out₂)
run-coincides = run-one

-- a plain action: answer and every number
module _ (m : Act (Unit {0})) (r : Regions) (s : List ℕ) where
  plain-coincides : {a₁ a₂ : RunAnswer} {s₁ s₂ : List ℕ} → numbers a₁ s₁ ≡ plain_on m r s → numbers a₂ s₂ ≡ plain_on m r s → (a₁ ≡ a₂) × (s₁ ≡ s₂)
  plain-coincides p q = let e = same p q in (ap (λ (n : Numbers). n.answer) e, ap (λ (n : Numbers). n.cells) e)

module _ (r : Regions) (s : List ℕ) {a₁ a₂ : RunAnswer} {s₁ s₂ : List ℕ} where
  -- plain::preserve
  pub preserve-coincides : numbers a₁ s₁ ≡ plain_on preserve_h0 r s → numbers a₂ s₂ ≡ plain_on preserve_h0 r s → (a₁ ≡ a₂) × (s₁ ≡ s₂)
  preserve-coincides = plain-coincides preserve_h0 r s

  -- plain::copy
  pub copy-coincides : numbers a₁ s₁ ≡ plain_on J74 r s → numbers a₂ s₂ ≡ plain_on J74 r s → (a₁ ≡ a₂) × (s₁ ≡ s₂)
  copy-coincides = plain-coincides J74 r s

  -- plain::erase
  pub erase-coincides : numbers a₁ s₁ ≡ plain_on J72 r s → numbers a₂ s₂ ≡ plain_on J72 r s → (a₁ ≡ a₂) × (s₁ ≡ s₂)
  erase-coincides = plain-coincides J72 r s

-- plain::walk, of a symbol with the number c: answer, how many cells, and the cells
pub walk-coincides : (c : ℕ) (r : Regions) (s : List ℕ) {m₁ m₂ : Met} → m₁ ≡ walk_on c r s → m₂ ≡ walk_on c r s → m₁ ≡ m₂
walk-coincides c r s = same

-- sound::sound
pub sound-coincides : (r : Regions) (s : List ℕ) {b₁ b₂ : Bool} → b₁ ≡ store_sound r s → b₂ ≡ store_sound r s → b₁ ≡ b₂
sound-coincides r s = same

-- sound::size_fits
pub size-fits-coincides : (n : ℕ) {b₁ b₂ : Bool} → b₁ ≡ size_fits n → b₂ ≡ size_fits n → b₁ ≡ b₂
size-fits-coincides n = same

-- sound::asks
pub asks-coincides : (r : Regions) (s : List ℕ) (q₁ q₂ : Result ℕ RunAnswer) → Asks r s q₁ → Asks r s q₂ → q₁ ≡ q₂
asks-coincides r s (Ok a) (Ok b) p q = ap (λ n. Ok n) (same (sym p.end) (sym q.end))
asks-coincides r s (Ok a) (Err b) p q = let e : none ≡ some b = sym (fit r s p.size p.sound) ∙ q in cc
asks-coincides r s (Err a) (Ok b) p q = let e : none ≡ some a = sym (fit r s q.size q.sound) ∙ p in cc
asks-coincides r s (Err a) (Err b) p q = let e : some a ≡ some b = same (sym p) (sym q) in cc

-- desk::replay: how many bytes are printed, and every byte
pub replay-coincides : (input : List ℕ) {p₁ p₂ : Printout} → p₁ ≡ printed (printout input) → p₂ ≡ printed (printout input) → p₁ ≡ p₂
replay-coincides input p q = same p q

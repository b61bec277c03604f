-- What a run prints, of every outcome that the contract of machine::run allows: whole lines, and how much by the longest of them (CR 3); and what its
-- answer 28 says (CR 5). Each statement can be read without its proof.
use Rattle.paper.proofs.Kit.{clash, ℕ, ◌*◌, ◌≤◌, ◌≡◌, refl, ap, subst, sym, ◌∙◌, Bool, true, false, List, [], Option, none, some, arith, length, take, drop}
use Rattle.paper.proofs.Kit.{take-append_seam}
use Rattle.paper.specs.declared.Refusal.{Refusal}
use Rattle.paper.specs.declared.Refusal.TheVariants.{NotListed, NoRoom}
use Rattle.paper.specs.declared.RunAnswer.{RunAnswer}
use Rattle.paper.specs.declared.RunAnswer.TheVariants.{BadSize, NotSound, Refused}
use Rattle.paper.specs.Limits.{longest_line}
use Rattle.paper.specs.Cell.{size_fits}
use Rattle.paper.specs.Run.{run}
use Rattle.paper.proofs.PrintLaws.{Ended, nothing}
use Rattle.paper.proofs.ListedLaws.{Unlisted}
use Rattle.paper.proofs.RunLines.{enough-room, lines-short, lines-whole}
use Rattle.paper.proofs.HopelessLaws.{run-28 as run-28-by}
use Rattle.regions.specs.declared.Regions.{Regions}
use Rattle.sound.specs.Store.{state_with, store_sound}
use Rattle.sound.specs.Asked.{unfit}
use Rattle.machine.specs.declared.Ran.{Ran}
use Rattle.machine.specs.Numbers.{Numbers, numbers, untouched, in_numbers, run_on}

-- what is asked first is no refusal of a cycle
not-asked : (r : Regions) (s : List ℕ) (e : Refusal) → unfit r s ≡ some (Refused e) → ⊥
unfolding unfit
not-asked r s e h = go (size_fits (length s)) (store_sound r s) h
  where
    go : (a b : Bool) → elim a as (λ _. Option RunAnswer) [
      | false ↦ some BadSize
      | true ↦ elim b as (λ _. Option RunAnswer) [ false ↦ some NotSound | true ↦ none ]
    ] ≡ some (Refused e) → ⊥
    go true true h = clash cc
    go true false h = clash cc
    go false b h = clash cc

module _ (r : Regions) (budget : ℕ) (s out : List ℕ) where
  -- what is so of a run by the definition, and of one that does nothing, is so of the call
  by-run : (P : Numbers → Type 0) → P (in_numbers out (run budget (state_with r s [] (length out)))) → ((a : RunAnswer) → unfit r s ≡ some a → P (untouched a s out))
      → P (run_on r budget s out)
  unfolding run_on
  by-run P h k = go (unfit r s) (λ a e. k a e)
    where
      go : (o : Option RunAnswer) → ((a : RunAnswer) → o ≡ some a → P (untouched a s out))
          → P (elim o as (λ _. Numbers) [ some a ↦ untouched a s out | none ↦ in_numbers out (run budget (state_with r s [] (length out))) ])
      go (some a) k = k a refl
      go none k = h

  module _ {ran : Ran} {s' out' : List ℕ} (e : numbers ran s' out' ≡ run_on r budget s out) where
    -- its lines have at most the longest line's bytes for each cycle
    pub run-prints : ran.len ≤ ran.cycles * longest_line
    run-prints =
        let of : Numbers → Type 0 = λ n. n.len ≤ n.cycles * longest_line in
        subst of (sym e) (by-run of (omega (arith, lines-short budget (state_with r s [] (length out)))) λ a p. omega arith)

    -- they are whole lines: nothing, or bytes that a line feed ends
    pub run-ends-line : Ended (take ran.len out')
    run-ends-line =
        let of : Numbers → Type 0 = λ n. Ended (take n.len n.out) in
        let o = run budget (state_with r s [] (length out)) in
        let t = o.state.lines in
        subst of (sym e) (by-run of (rw (take-append_seam t (drop (length t) out)) (lines-whole budget (state_with r s [] (length out)) nothing)) λ a p. nothing)

    -- with that much room for each cycle of its budget it is not refused by 30
    pub run-has-room : budget * longest_line ≤ length out → ran.answer ≡ Refused NoRoom → ⊥
    run-has-room h =
        let of : Numbers → Type 0 = λ n. n.answer ≡ Refused NoRoom → ⊥ in
        subst of (sym e) (by-run of (enough-room budget (state_with r s [] (length out)) h) λ a p q. not-asked r s NoRoom (p ∙ ap some q))

    -- answered 28, its value is the cell of a process that is not listed
    pub run-28 : (c : ℕ) → ran.answer ≡ Refused (NotListed c) → Unlisted c
    run-28 c =
        let of : Numbers → Type 0 = λ n. n.answer ≡ Refused (NotListed c) → Unlisted c in
        subst of (sym e) (by-run of (run-28-by budget (state_with r s [] (length out)) c) λ a p q. absurd (not-asked r s (NotListed c) (p ∙ ap some q)))

-- A walk by what its code did: the answers 1 and 20, the cells met, or a refusal.
use Rattle.paper.proofs.Kit.{ℕ, ◌≤◌, ◌≡◌, refl, sym, ap, ◌∙◌, List, [], reverse-reverse, Bool, true, false, some}
use Rattle.paper.proofs.Kit.{arith, length, take, length-take-le}
use Rattle.std.specs.Prelude.{Result, Ok, Err}
use Rattle.paper.specs.declared.RunAnswer.{RunAnswer}
use Rattle.paper.specs.declared.RunAnswer.TheVariants.{Finished, Refused as Stopped}
use Rattle.paper.specs.declared.Refusal.{Refusal}
use Rattle.paper.specs.Cell.{State, size_fits}
use Rattle.paper.specs.Walk.{walk_back}
use Rattle.paper.specs.Plain.{walked, after_walk, walk_call}
use Rattle.cells.specs.Pack.{AllFormed}
use Rattle.steps.specs.Follows.{outcome}
use Rattle.regions.specs.declared.Regions.{Regions}
use Rattle.regions.specs.Table.{regions_of}
use Rattle.sound.specs.Store.{state_with, store_sound}
use Rattle.sound.specs.Asked.{unfit, Passed}
use Rattle.sound.proofs.SoundLaws.{size-range, passed-sound, in-form}
use Rattle.sound.proofs.AskLaws.{unfit-size, unfit-unsound, fit}
use Rattle.structures.specs.Walks.{Lists, met_in}
use Rattle.plain.specs.Walks.{padded, met_of, walk_on}
use Rattle.plain.proofs.Settled.{size_is}

module _ (c : ℕ) (r : Regions) (s : List ℕ) where
  pub walk-unfit : {a : RunAnswer} → unfit r s ≡ some a → met_of (walked a []) ≡ walk_on c r s
  unfolding walk_on
  walk-unfit e = rw (e, walk_on)

  abbrev st : State
  st = state_with r s [] 0

  module _ {top : ℕ} (p : Passed r s top) where
    says-walk : walk_call c st ≡ after_walk (walk_back c st)
    unfolding walk_call
    says-walk = rw (size_is s p.size, passed-sound r s [] 0 p.sound, walk_call)

    -- the call is the walk of the definition
    pub walks : met_of (after_walk (walk_back c st)) ≡ walk_on c r s
    unfolding walk_on
    walks = ap met_of (sym says-walk) ∙ rw (fit r s p.size p.sound, walk_on)

    module _ {order : List ℕ} where
      read : {a : Result ℕ Refusal} → Lists (walk_back c) s order a → walk_back c st ≡ outcome (met_in order a) st
      read l = l.says.is (record { regions = regions_of r; lines = []; room = 0 }) tt

      -- the cells met stand in the order, last first in the definition
      pub walk-done : {n : ℕ} → Lists (walk_back c) s order (Ok n) → {cells : List ℕ} → cells ≡ padded (take n order)
          → record { answer = Finished; n = n; cells = cells } ≡ walk_on c r s
      unfolding after_walk
      walk-done {n} l f =
          ap (λ xs. record { answer = Finished; n = n; cells = xs }) f
          ∙ ap (λ n'. record { answer = Finished; n = n'; cells = padded (take n order) })
          (sym (length-take-le n order (omega (arith, l.listed, size-range (length s) p.size))))
          ∙ ap (λ xs. met_of (walked Finished xs)) (sym (reverse-reverse (take n order)))
          ∙ ap (λ x. met_of (after_walk x)) (sym (read l)) ∙ walks

      pub walk_refused : {e : Refusal} → Lists (walk_back c) s order (Err e) → met_of (walked (Stopped e) []) ≡ walk_on c r s
      unfolding after_walk
      walk_refused l = ap (λ x. met_of (after_walk x)) (sym (read l)) ∙ walks

  -- numbers and a table in form: `walk_call` itself, whatever the store
  module _ (n : r.n ≤ 23) (f : AllFormed s) where
    at-sound : size_fits (length s) ≡ true → (b : Bool) → store_sound r s ≡ b → walk_on c r s ≡ met_of (walk_call c st)
    unfolding walk_on walk_call
    at-sound e true g = rw (fit r s e g, walk_on)
    at-sound e false g = sym (walk-unfit (unfit-unsound r s e g)) ∙ rw (size_is s e, sym (in-form r s [] 0 n f), g, walk_call)

    pub walk_is : walk_on c r s ≡ met_of (walk_call c st)
    unfolding walk_call
    walk_is = at_size (size_fits (length s)) refl
      where
        at_size : (b : Bool) → size_fits (length s) ≡ b → walk_on c r s ≡ met_of (walk_call c st)
        at_size true e = at-sound e (store_sound r s) refl
        at_size false e = sym (walk-unfit (unfit-size r s e)) ∙ rw (size_is s e, walk_call)

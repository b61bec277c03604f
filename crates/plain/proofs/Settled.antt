-- A plain action by what its code did: the answers 1 and 20, and an action that was done or undone.
use Rattle.paper.proofs.Kit.{ℕ, ◌≤◌, ◌≡◌, refl, sym, ap, ◌∙◌, Bool, true, false, List, [], some, length}
use Rattle.std.specs.Prelude.{Result, Ok, Err}
use Rattle.paper.specs.declared.Refusal.{Refusal}
use Rattle.paper.specs.declared.RunAnswer.{RunAnswer}
use Rattle.paper.specs.declared.RunAnswer.TheVariants.{Finished, BadSize, NotSound, Refused as Stopped}
use Rattle.paper.specs.Cell.{State, size_fits}
use Rattle.paper.specs.Sound.{sound}
use Rattle.paper.specs.Act.{Act}
use Rattle.paper.specs.Plain.{acted, after_act, plainly}
use Rattle.cells.specs.Pack.{AllFormed}
use Rattle.cells.specs.Bridge.{unpacked}
use Rattle.cells.proofs.Store.{unpacked-length, packed-unpacked}
use Rattle.steps.specs.Follows.{Follows, outcome}
use Rattle.undo.specs.Log.{Begun}
use Rattle.undo.specs.Did.{Top, lent}
use Rattle.regions.specs.declared.Regions.{Regions}
use Rattle.regions.specs.Table.{regions_of}
use Rattle.sound.specs.Store.{state_with, store_sound}
use Rattle.sound.specs.Asked.{unfit, Passed}
use Rattle.sound.proofs.SoundLaws.{passed-formed, passed-sound, in-form}
use Rattle.sound.proofs.AskLaws.{unfit-size, unfit-unsound, fit}
use Rattle.plain.specs.Numbers.{numbers, in_numbers, plain_on, settled_as}

-- the size of a store is that of its numbers
pub size_is : (s : List ℕ) {b : Bool} → size_fits (length s) ≡ b → size_fits (length (unpacked s)) ≡ b
size_is s e = ap size_fits (unpacked-length s) ∙ e

module _ (m : Act (Unit {0})) (r : Regions) (s : List ℕ) where
  pub plain-unfit : {a : RunAnswer} → unfit r s ≡ some a → numbers a s ≡ plain_on m r s
  unfolding plain_on
  plain-unfit e = rw (e, plain_on)

  -- what `plainly` says of the store
  abbrev st : State
  st = state_with r s [] 0

  says-size : size_fits (length s) ≡ false → plainly m st ≡ acted BadSize st
  unfolding plainly
  says-size e = rw (size_is s e, plainly)

  says-unsound : size_fits (length s) ≡ true → sound st ≡ false → plainly m st ≡ acted NotSound st
  unfolding plainly
  says-unsound e f = rw (size_is s e, f, plainly)

  says-acts : size_fits (length s) ≡ true → sound st ≡ true → plainly m st ≡ after_act st (m st)
  unfolding plainly
  says-acts e f = rw (size_is s e, f, plainly)

  plain-acts : size_fits (length s) ≡ true → store_sound r s ≡ true → in_numbers (plainly m st) ≡ plain_on m r s
  unfolding plain_on
  plain-acts e f = rw (fit r s e f, plain_on)

  module _ {top : ℕ} (p : Passed r s top) where
    pub done-or-not : in_numbers (after_act st (m st)) ≡ plain_on m r s
    done-or-not = ap in_numbers (sym (says-acts p.size (passed-sound r s [] 0 p.sound))) ∙ plain-acts p.size p.sound

    module _ {k : ℕ} {l s₁ l₁ : List ℕ} where
      came : {a : Result (Unit {0}) Refusal} → Follows lent (Top top) k m (s, l) (s₁, l₁) a → m st ≡ outcome a (state_with r s₁ [] 0)
      came d = d.is (record { regions = regions_of r; lines = []; room = 0 }) p.end

      -- an action that was done leaves its cells; one that was refused, the numbers as they were
      pub plain-settled : Begun s l → (a : Result (Unit {0}) Refusal) → Follows lent (Top top) k m (s, l) (s₁, l₁) a → settled_as a l₁ s₁ ≡ plain_on m r s
      unfolding after_act
      plain-settled b (Ok v) d =
          ap (numbers Finished) (sym (packed-unpacked s₁ (d.kept.formed (passed-formed r s p.sound))))
          ∙ ap (λ x. in_numbers (after_act st x)) (sym (came d)) ∙ done-or-not
      plain-settled b (Err e) d =
          ap (numbers (Stopped e)) (d.kept.back ∙ b.back ∙ sym (packed-unpacked s (passed-formed r s p.sound)))
          ∙ ap (λ x. in_numbers (after_act st x)) (sym (came d)) ∙ done-or-not

  -- numbers and a table in form: `plainly` itself, whatever the store
  module _ (n : r.n ≤ 23) (f : AllFormed s) where
    kept : (a : RunAnswer) → numbers a s ≡ in_numbers (acted a st)
    kept a = ap (numbers a) (sym (packed-unpacked s f))

    at-sound : size_fits (length s) ≡ true → (b : Bool) → store_sound r s ≡ b → plain_on m r s ≡ in_numbers (plainly m st)
    at-sound e true g = sym (plain-acts e g)
    at-sound e false g = sym (plain-unfit (unfit-unsound r s e g)) ∙ kept NotSound ∙ ap in_numbers (sym (says-unsound e (sym (in-form r s [] 0 n f) ∙ g)))

    pub plain-is : plain_on m r s ≡ in_numbers (plainly m st)
    plain-is = at_size (size_fits (length s)) refl
      where
        at_size : (b : Bool) → size_fits (length s) ≡ b → plain_on m r s ≡ in_numbers (plainly m st)
        at_size true e = at-sound e (store_sound r s) refl
        at_size false e = sym (plain-unfit (unfit-size r s e)) ∙ kept BadSize ∙ ap in_numbers (sym (says-size e))

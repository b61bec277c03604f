-- What a call asks of the lent numbers and a table before it does anything. Numbers or a table out of form are 20 too.
use Rattle.std.specs.Prelude.{ℕ, ◌≡◌, true, false, List, length, Result, Ok, Err}
use Rattle.std.proofs.Math.Option.{Option, none, some}
use Rattle.paper.specs.declared.RunAnswer.{RunAnswer}
use Rattle.paper.specs.declared.RunAnswer.TheVariants.{BadSize, NotSound}
use Rattle.paper.specs.Limits.{first_deck}
use Rattle.paper.specs.Cell.{end_of_regions, size_fits}
use Rattle.regions.specs.declared.Regions.{Regions}
use Rattle.regions.specs.Table.{regions_of}
use Rattle.sound.specs.Store.{store_sound}

-- 1: "N out of range"; 20: "store not sound"
unfoldable pub unfit : Regions → List ℕ → Option RunAnswer
unfit r s =
    elim (size_fits (length s)) [
      | false ↦ some BadSize
      | true ↦ elim (store_sound r s) [ false ↦ some NotSound | true ↦ none ]
    ]

-- it is sound and its regions end at `top`, or the answer is given whatever the call
pub record Passed (r : Regions) (s : List ℕ) (top : ℕ) : Type 0 where
  pub size : size_fits (length s) ≡ true
  pub sound : store_sound r s ≡ true
  pub end : end_of_regions (regions_of r) first_deck ≡ top

abbrev pub Asks : Regions → List ℕ → Result ℕ RunAnswer → Type 0
Asks r s (Ok top) = Passed r s top
Asks r s (Err a) = unfit r s ≡ some a

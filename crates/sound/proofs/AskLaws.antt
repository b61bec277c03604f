-- What a call is answered: 1 and 20, or neither.
use Rattle.paper.proofs.Kit.{ℕ, ◌≡◌, true, false, List, none, some, length}
use Rattle.paper.specs.declared.RunAnswer.TheVariants.{BadSize, NotSound}
use Rattle.paper.specs.Cell.{size_fits}
use Rattle.regions.specs.declared.Regions.{Regions}
use Rattle.sound.specs.Store.{store_sound}
use Rattle.sound.specs.Asked.{unfit}

module _ (r : Regions) (s : List ℕ) where
  pub unfit-size : size_fits (length s) ≡ false → unfit r s ≡ some BadSize
  unfolding unfit
  unfit-size e = rw (e, unfit)

  pub unfit-unsound : size_fits (length s) ≡ true → store_sound r s ≡ false → unfit r s ≡ some NotSound
  unfolding unfit
  unfit-unsound e f = rw (e, f, unfit)

  pub fit : size_fits (length s) ≡ true → store_sound r s ≡ true → unfit r s ≡ none
  unfolding unfit
  fit e f = rw (e, f, unfit)

use Rattle.paper.proofs.Kit.{sym, subst, ◌∙◌}
use lib.Dec.{T}
use Rattle.floats.proofs.Laws.{keeps, bits-tell}
use Rattle.floats.proofs.keep.Goals as goal

-- That a number of the code fits its format is the second part of what is known of it.
pub returns : goal.returns
returns c =
    let x = c.args.x in
    c.then_some.ensures ∙ keeps x c.is_finite.result (bits-tell x _ (subst T (sym c.well_formed.0.1) tt) (sym c.is_finite.ensures))

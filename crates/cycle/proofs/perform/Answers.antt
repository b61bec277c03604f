use Rattle.cycle.proofs.PartLaws.{part-quiet, part-most}
use Rattle.steps.proofs.Sequence.{same_err}
use Rattle.paper.proofs.Kit.{arith, refl, rules}
use Rattle.std.specs.Prelude.{Ok, Err}
use Rattle.cycle.proofs.perform.Goals as goal

pub on_lines-requires : goal.on_lines-requires
on_lines-requires c = (
  record { fits = omega (arith, c.requires.0.room.fits) },
  c.requires.0.names,
  c.requires.0.within,
  c.if-j-ge152.true,
  c.if-j-le153.true,
)

pub returns-then-j-le153 : goal.returns-then-j-le153
returns-then-j-le153 c = (part-most _ (omega arith) c.on_lines.ensures)

pub by_family-requires : goal.by_family-requires
by_family-requires c = (
  c.requires.0.range,
  record { fits = c.requires.0.room.fits; ends = c.top_of.ensures.1 },
  c.requires.1,
  search rules,
  search rules,
  c.requires.2,
)

pub returns-in_err-by_family : goal.returns-in_err-by_family
returns-in_err-by_family c =
    rw (same_err c.from_residual.ensures.1) (part-quiet _ _ _ c.requires.0.within (Err _) refl c.top_of.ensures.0 c.in_err-by_family.ensures)

pub returns : goal.returns
returns c = (part-quiet _ _ _ c.requires.0.within (Ok _) refl c.top_of.ensures.0 c.in_ok-by_family.ensures)

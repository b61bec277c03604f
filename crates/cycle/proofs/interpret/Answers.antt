use Rattle.steps.proofs.Sequence.{same_err}
use Rattle.cycle.proofs.InterpretLaws.{not-fetched, not-operated, interpreted}
use Rattle.paper.proofs.Kit.{arith}
use Rattle.cycle.proofs.interpret.Goals as goal

pub returns-in_err-f : goal.returns-in_err-f
returns-in_err-f c =
    rw (same_err c.from_residual.ensures.1) (not-fetched _ _ c.top_of-top.ensures.0 _ _ _ c.requires.within c.in_err-f.ensures)

pub returns-in_err-r : goal.returns-in_err-r
returns-in_err-r c =
    rw (same_err c.from_residual-in_err-r.ensures.1) (not-operated _ _ c.top_of-top.ensures.0 c.in_ok-f.ensures c.in_err-r.ensures)

pub advance-requires : goal.advance-requires
advance-requires c =
    let o = c.in_ok-r.ensures in
    record {
      fits = omega (arith, c.operate.auto.log, (o.follows _ c.requires.names.tells).kept.count, c.requires.room.fits);
      ends = c.top_of-top.ensures.1;
    }

pub returns : goal.returns
returns c =
    let o = c.in_ok-r.ensures in
    (interpreted _ _ c.top_of-top.ensures.0 c.in_ok-f.ensures o c.advance.ensures)

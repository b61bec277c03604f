use Rattle.paper.proofs.Kit.{arith, refl, length-set}
use Rattle.undo.proofs.Log.{logged-used, logged-back}
use Rattle.undo.proofs.write.Goals as goal

pub bounds-log-n-2 : goal.bounds-log-n-2
bounds-log-n-2 c = simp length-set (omega arith)

pub bounds-log-0-2 : goal.bounds-log-0-2
bounds-log-0-2 c = simp length-set (omega arith)

pub returns : goal.returns
returns c =
    let a = c.args in
    record {
      is = refl;
      back = logged-back a.log.now a.cells.now _ a.at a.y (omega arith) refl;
      count = logged-used a.log.now a.cells.now _ a.at a.y (omega arith) refl;
    }

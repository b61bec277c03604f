use Rattle.undo.proofs.Log.{begun-by}
use Rattle.paper.proofs.Kit.{refl, arith, length-set}
use Rattle.undo.proofs.begin.Goals as goal

pub bounds-log-1 : goal.bounds-log-1
bounds-log-1 c = simp length-set (omega arith)

pub bounds-log-2 : goal.bounds-log-2
bounds-log-2 c = simp length-set (omega arith)

pub bounds-log-3 : goal.bounds-log-3
bounds-log-3 c = simp length-set (omega arith)

pub returns : goal.returns
returns c =
    begun-by c.args.log.now c.args.cells.now _ _ _ _ (omega arith) refl refl refl refl

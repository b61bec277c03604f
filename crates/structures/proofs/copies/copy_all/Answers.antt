use Rattle.paper.proofs.Kit.{ap, arith}
use Rattle.paper.specs.Act.{put}
use Rattle.paper.specs.Walk.{copied}
use Rattle.cells.specs.Layout.{unpack_of}
use Rattle.steps.proofs.Sequence.{alike}
use Rattle.undo.proofs.Leaves.{peeked}
use Rattle.undo.proofs.Lines.{puts, once}
use Rattle.structures.specs.Copies.{new_of}
use Rattle.structures.proofs.Loops.{copy_more, copy-end}
use Rattle.structures.proofs.copies.copy_all.Goals as goal

pub loop-o-preserved : goal.loop-o-preserved
loop-o-preserved c =
    let x = copied (new_of c.args.marks.now) (unpack_of c.peek.result) in
    copy_more _ _ _ c.loop-o.invariant (omega arith) (peeked _ _ c.peek.ensures)
    (alike (ap (λ n. put n x) c.mark_at.ensures) (once _ _ (puts _ c.copied-y.ensures c.put.ensures)))

pub returns : goal.returns
returns c = copy-end _ _ _ c.loop-o.invariant _ (omega arith) (omega arith)

use Rattle.paper.proofs.Kit.{sym, ◌∙◌, rules}
use Rattle.undo.proofs.Log.{unsaved}
use Rattle.undo.proofs.Leaves.{put-saved, put-done, put-out}
use Rattle.undo.proofs.put.Goals as goal

pub write-requires : goal.write-requires
write-requires c =
    (search rules, unsaved c.args.c (sym c.is_saved.ensures ∙ c.if-is_saved.false) c.requires.0)

pub returns-then-is_saved : goal.returns-then-is_saved
returns-then-is_saved c =
    put-saved c.args.cells.now c.args.c c.args.y (sym c.is_saved.ensures ∙ c.if-is_saved.true) c.requires.1 c.set_at.ensures

pub returns-then-i-cells : goal.returns-then-i-cells
returns-then-i-cells c =
    put-done c.args.cells.now c.args.c c.args.y (sym c.is_saved.ensures ∙ c.if-is_saved.false) c.requires.1 c.write.ensures

pub returns-else-i-cells : goal.returns-else-i-cells
returns-else-i-cells c =
    put-out c.args.cells.now c.args.c c.args.y c.if-i-cells.false

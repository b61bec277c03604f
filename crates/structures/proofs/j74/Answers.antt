use Rattle.paper.proofs.Kit.{ap, arith}
use Rattle.paper.specs.Act.{gives}
use Rattle.paper.specs.Process.{J74}
use Rattle.steps.proofs.Sequence.{bind, bind_err, any, any-sees, alike, most, same_err}
use Rattle.undo.proofs.Lines.{looks}
use Rattle.structures.proofs.j74.Goals as goal

pub returns-in_err-c : goal.returns-in_err-c
unfolding J74
returns-in_err-c c =
    let t = c.in_err-c.ensures in
    rw (same_err c.from_residual.ensures.1) (looks _ (any-sees c.own-w0.ensures) (most _ (omega arith) (bind_err _ (any t))))

pub returns : goal.returns
unfolding J74
returns c =
    let t = c.in_ok-c.ensures in
    most _ (omega arith) (looks _ (any-sees c.own-w0.ensures) (bind _ (any t) (alike (ap (gives 1) c.copy_name.ensures) c.gives1.ensures)))

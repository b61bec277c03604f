use Rattle.paper.proofs.Kit.{◌≡◌, get_or, arith}
use Rattle.std.proofs.lemmas.Grind.{common_steps}
use Rattle.cells.proofs.Store.{cell_or}
use Rattle.cells.proofs.peek.Goals as goal

pub returns : goal.returns
returns c =
    let e : c.unwrap_or.result ≡ get_or c.args.cells.now c.args.c 281474976710656 = grind (arith, common_steps) in
    rw e (cell_or _ _)

use Rattle.cycle.proofs.CountLaws.{counted}
use Rattle.cycle.proofs.tally.count.Goals as goal

pub returns : goal.returns
returns c =
    counted c.args.cells.now c.one_more.result c.requires c.one_more.ensures

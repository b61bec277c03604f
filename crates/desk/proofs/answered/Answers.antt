use Rattle.desk.proofs.PageLaws.{page-answered}
use Rattle.desk.proofs.answered.Goals as goal

pub returns : goal.returns
returns c =
    let p = c.requires in
    page-answered _ _ _ p.0 p.1 p.2 c.number_line-n.ensures

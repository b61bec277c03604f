use Rattle.lists.proofs.Words.{end_is}
use Rattle.lists.proofs.is_end.Goals as goal

pub returns : goal.returns
returns c = end_is c.args.w

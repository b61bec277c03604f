use Rattle.paper.proofs.Kit.{sym, ◌∙◌, arith}
use Rattle.regions.proofs.TableLaws.{held}
use Rattle.regions.proofs.Regions.len.Goals as goal

pub returns : goal.returns
returns c = (c.min.ensures ∙ sym (held c.args.self), omega arith)

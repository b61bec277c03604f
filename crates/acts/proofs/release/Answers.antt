use Rattle.paper.specs.Act.{release}
use Rattle.steps.proofs.Sequence.{then}
use Rattle.undo.proofs.Lines.{looks, puts, once}
use Rattle.acts.proofs.release.Goals as goal

pub returns : goal.returns
unfolding release
returns c = looks _ c.own-h.ensures (then (once _ _ (puts _ c.of_free.ensures c.put.ensures)) (puts _ c.with_link.ensures c.put-2.ensures))

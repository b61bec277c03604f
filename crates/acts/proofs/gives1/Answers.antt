use Rattle.steps.proofs.Sequence.{same_err}
use Rattle.paper.proofs.Kit.{ap, sym, ◌∙◌, arith}
use Rattle.paper.specs.Cell.{is_word}
use Rattle.paper.specs.Act.{gives, pops}
use Rattle.steps.proofs.Sequence.{any, most, then, then_err, last}
use Rattle.acts.proofs.Net.{net-did}
use Rattle.acts.proofs.gives1.Goals as goal

pub returns-then-is_word : goal.returns-then-is_word
returns-then-is_word c = most 2 (omega arith) (net-did _ (ap is_word c.peek.ensures ∙ sym c.is_word.ensures ∙ c.if-is_word.true) c.stays.ensures)

pub returns-in_err-pop : goal.returns-in_err-pop
unfolding gives pops
returns-in_err-pop c = rw (same_err c.from_residual.ensures.1) (most 2 (omega arith) (then_err _ (last _ c.in_err-pop.ensures)))

pub returns : goal.returns
unfolding gives pops
returns c = then (last _ c.in_ok-pop.ensures) (any c.push.ensures)

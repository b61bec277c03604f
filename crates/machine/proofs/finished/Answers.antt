use Rattle.paper.proofs.Kit.{ap, sym, ◌∙◌, ◌&&◌, eqb}
use Rattle.paper.specs.Cell.{Word, word_in}
use Rattle.paper.specs.Run.{is_finished}
use Rattle.cells.specs.Bridge.{cell_in}
use Rattle.machine.proofs.finished.Goals as goal

pub returns : goal.returns
unfolding is_finished cell_in
returns c =
    ap (λ (h : Word). eqb h.symb 0 && eqb h.link 0) (sym (ap word_in c.peek.ensures ∙ c.word_in-h.ensures))

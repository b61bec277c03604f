use Rattle.paper.proofs.Kit.{ap, sym, ◌∙◌}
use Rattle.paper.specs.Cell.{Word, word_in}
use Rattle.cells.specs.Bridge.{cell_in}
use Rattle.sound.proofs.free_start.Goals as goal

pub returns : goal.returns
unfolding cell_in
returns c = sym (ap (λ (w : Word). w.link) (ap word_in c.peek.ensures ∙ c.word_in.ensures))

use Rattle.regions.proofs.CellLaws.{cell-H, cell-W, cell-J, cell-deck}
use Rattle.paper.proofs.Kit.{sym, ◌∙◌}
use Rattle.regions.proofs.Regions.cell_of.Goals as goal

pub returns-in-72 : goal.returns-in-72
returns-in-72 c = c.inside.ensures ∙ sym (cell-H _ _ _ c.in-72.is)

pub returns-in-87 : goal.returns-in-87
returns-in-87 c = c.inside-in-87.ensures ∙ sym (cell-W _ _ _ c.in-87.is)

pub returns-in-74 : goal.returns-in-74
returns-in-74 c = c.inside-in-74.ensures ∙ sym (cell-J _ _ _ c.in-74.is)

pub returns-in_default : goal.returns-in_default
returns-in_default c =
    c.in_deck.ensures ∙ sym (cell-deck _ _ _ c.in_default.in_default-own.rest.0.0.1 c.in_default.in_default-own.rest.0.1 c.in_default.in_default-own.rest.1)

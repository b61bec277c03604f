use Rattle.paper.proofs.Kit.{◌∙◌, arith}
use Rattle.regions.proofs.LentLaws.{name-0, name-H, name-W, name-J, name-deck}
use Rattle.regions.proofs.letters_of.Goals as goal

pub returns-in-0 : goal.returns-in-0
returns-in-0 c = name-0 _ _ c.in-0.is

pub returns-in-1-to-10 : goal.returns-in-1-to-10
returns-in-1-to-10 c = name-H _ _ (omega arith) (omega arith)

pub returns-in-11-to-20 : goal.returns-in-11-to-20
returns-in-11-to-20 c = name-W _ _ (omega arith) (omega arith)

pub returns-in-21-to-220 : goal.returns-in-21-to-220
returns-in-21-to-220 c = name-J _ _ (omega arith) (omega arith)

pub returns-in_default : goal.returns-in_default
returns-in_default c = c.in_rows.ensures ∙ name-deck _ _ (omega arith)

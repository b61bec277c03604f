use Rattle.paper.proofs.Kit.{sym, ◌∙◌}
use Rattle.lists.proofs.reserved_end.Goals as goal

pub returns-then-is_end : goal.returns-then-is_end
returns-then-is_end c = simp (sym c.is_end.ensures ∙ c.if-is_end.true) c.reserved.ensures

pub returns-else-is_end : goal.returns-else-is_end
returns-else-is_end c = c.if-is_end.false ∙ simp (sym c.is_end.ensures ∙ c.if-is_end.false)

use Rattle.printing.proofs.TextLaws.{text-as, term-integer, text-hex}
use Rattle.paper.proofs.Kit.{sym, ◌∙◌}
use Rattle.printing.proofs.term_text.Goals as goal

pub returns-then-is_integer : goal.returns-then-is_integer
returns-then-is_integer c =
    text-as (term-integer c.args.x (sym c.is_integer.ensures ∙ c.if-is_integer.true)) c.integer_text.ensures

pub returns : goal.returns
returns c =
    text-hex c.args.x (sym c.is_integer.ensures ∙ c.if-is_integer.false) c.hex.ensures

use Rattle.paper.proofs.Kit.{arith}
use Rattle.printing.proofs.TextLaws.{text-as, text-of, symbol-local, symbol-regional, symbol-other}
use Rattle.printing.proofs.symbol_text.Goals as goal

pub returns-in-2 : goal.returns-in-2
returns-in-2 c = text-as (symbol-local _ c.args.x c.in-2.is) c.local_text.ensures

pub returns-in-0 : goal.returns-in-0
returns-in-0 c = text-as (symbol-regional _ c.args.x (omega arith) c.in-0.is) c.cell_text.ensures

pub returns-in_default : goal.returns-in_default
returns-in_default c =
    let w = c.number.ensures in
    text-of (symbol-other _ c.args.x (omega arith) (omega arith)) (omega (arith, w.1)) w.0

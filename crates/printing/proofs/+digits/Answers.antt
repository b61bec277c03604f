use Rattle.paper.proofs.Kit.{◌-◌, ◌/◌, arith}
use Rattle.paper.proofs.LineLaws.{digits-length}
use Rattle.printing.proofs.TextLaws.{writes-none, writes_one, writes_more, writes_as, digits-none, digits-one, digits_more}
use Rattle.printing.proofs.+digits.Goals as goal

pub returns-then-k-eq0 : goal.returns-then-k-eq0
returns-then-k-eq0 t c = writes_as (digits-none _ _ c.if-k-eq0.true) (writes-none _ _)

pub returns-then-n-lt10 : goal.returns-then-n-lt10
returns-then-n-lt10 t c = writes_as (digits-one _ _ c.if-k-eq0.false c.if-n-lt10.true) (writes_one _ _ _ (omega (arith, c.told-line)))

-- the byte after the first digits is within the line
pub bounds-line-end : goal.bounds-line-end
bounds-line-end t c = let a = c.args in omega (arith, c.digits-end.ensures.end, digits-length (a.k - 1) (a.n / 10))

pub returns : goal.returns
returns t c =
    let a = c.args in
    let more = digits_more _ _ c.if-k-eq0.false c.if-n-lt10.false in
    let first = c.digits-end.ensures in
    writes_as more (writes_more first (writes_one _ _ _ (omega (arith, first.end, digits-length (a.k - 1) (a.n / 10), first.sized, c.told-line))))

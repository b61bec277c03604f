use Rattle.paper.proofs.Kit.{ℕ, ◌-◌, ◌/◌, ap, ◌∙◌, arith, ◌∷◌, [], ◌++◌}
use Rattle.paper.specs.Print.{hex_by}
use Rattle.paper.proofs.LineLaws.{hex-length}
use Rattle.printing.proofs.TextLaws.{writes-none, writes_one, writes_more, writes_as, hex-none, hex-more}
use Rattle.printing.proofs.+hex.Goals as goal

pub returns-then-k-eq0 : goal.returns-then-k-eq0
returns-then-k-eq0 t c = writes_as (hex-none _ _ c.if-k-eq0.true) (writes-none _ _)

-- the byte after the first digits is within the line
pub bounds-line-end : goal.bounds-line-end
bounds-line-end t c = let a = c.args in omega (arith, c.hex-end.ensures.end, hex-length (a.k - 1) (a.n / 16))

pub returns : goal.returns
returns t c =
    let a = c.args in
    let first = c.hex-end.ensures in
    let digit = ap (λ (d : ℕ). hex_by (a.k - 1) (a.n / 16) ++ (d ∷ [])) c.hex_digit.ensures in
    writes_as (digit ∙ hex-more _ _ c.if-k-eq0.false)
    (writes_more first (writes_one _ _ _ (omega (arith, first.end, hex-length (a.k - 1) (a.n / 16), first.sized, c.told-line))))

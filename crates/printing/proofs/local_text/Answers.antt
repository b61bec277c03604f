use Rattle.paper.proofs.Kit.{ℕ, refl, arith, length-set}
use Rattle.printing.proofs.TextLaws.{writes_one, writes_more, text-after}
use Rattle.printing.proofs.local_text.Goals as goal

pub returns : goal.returns
returns c =
    let w = c.number.ensures in
    text-after _ refl (omega (arith, w.1)) (omega arith) (writes_more (writes_one _ _ _ (omega (arith, length-set {A = ℕ}))) w.0)

-- Pops followed by a push.
use Rattle.paper.proofs.Kit.{◌≡◌, ap, ◌∙◌, sym}
use Rattle.paper.specs.declared.Symbol.{Symbol}
use Rattle.paper.specs.Act.{Act, ◌>>◌, pop, pops, push, gives}
use Rattle.steps.proofs.Steps.{then-then}

-- a pop, and a pop with a push, are two pops and the push
pub pops-push : (x : Symbol) (m : Act (Unit {0})) → (pop >> (gives 1 x >> m)) ≡ (pops 2 >> (push x >> m))
unfolding gives pops
pops-push x m = ap (λ (n : Act (Unit {0})). pop >> n) (then-then (pops 1) (push x) m) ∙ sym (then-then pop (pops 1) (push x >> m))

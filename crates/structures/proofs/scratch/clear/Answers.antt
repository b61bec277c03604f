use Rattle.paper.proofs.Kit.{arith, subst, length-set, drop_of_length-le}
use Rattle.structures.specs.Marks.{Only}
use Rattle.structures.proofs.Marks.{only-less, only_none}
use Rattle.structures.proofs.Lists.{drop-at}
use Rattle.structures.proofs.scratch.clear.Goals as goal

pub loop-c-preserved : goal.loop-c-preserved
loop-c-preserved c =
    let l = c.loop-c in
    let o = subst (λ s. Only l.marks s) (drop-at c.args.met.now l.c-index (omega arith)) l.invariant.1 in
    (simp length-set l.invariant.0, only-less _ (omega arith) o)

pub returns : goal.returns
returns c =
    let l = c.loop-c in
    only_none l.invariant.0 (subst (λ s. Only l.marks s) (drop_of_length-le c.args.met.now {i = l.c-index} (omega arith)) l.invariant.1)

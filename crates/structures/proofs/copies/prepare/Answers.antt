use Rattle.paper.proofs.Kit.{subst}
use Rattle.structures.specs.Marks.{Only}
use Rattle.undo.proofs.Lines.{puts}
use Rattle.structures.proofs.Whole.{take-whole, prepared-found, prepares-taken}
use Rattle.structures.proofs.copies.prepare.Goals as goal

pub returns-then-all_new-clause-prepares : goal.returns-then-all_new-clause-prepares
returns-then-all_new-clause-prepares c =
    let f = c.find-f in
    let n = c.all_new.ensures c.if-all_new.true in
    let o = subst (Only _) (take-whole _ n.all) f.ensures.only in
    prepared-found _ _ o c.requires.0 f.ensures n c.own-h.ensures (puts _ c.with_link.ensures c.put.ensures)

pub returns-clause-prepares : goal.returns-clause-prepares
returns-clause-prepares c =
    let t = c.take_all.ensures in
    prepares-taken _ _ _ c.requires.0 t.leaves t.did

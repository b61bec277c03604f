use Rattle.paper.proofs.Kit.{arith, ◌-◌, ap, sym, ◌∙◌, length, length-set}
use Rattle.undo.proofs.Log.{rewind-step, rewind-none}
use Rattle.undo.specs.Log.{rewind_of, rewind_from, put_back}
use Rattle.undo.proofs.rewind.Goals as goal

pub loop-i-preserved : goal.loop-i-preserved
loop-i-preserved c =
    let l = c.loop-i in
    let log = c.args.log.now in (
      ap length c.set_at.ensures ∙ simp length-set l.invariant.0,
      ap (rewind_from log (l.i - 1)) c.set_at.ensures ∙ sym (rewind-step log l.i l.cells (omega arith)) ∙ l.invariant.1,
    )

pub returns : goal.returns
unfolding rewind_of put_back
returns c =
    rw (
      c.set_at-5.ensures,
      c.set_at-4.ensures,
      c.set_at-3.ensures,
      c.set_at-2.ensures,
      ← (rewind-none c.args.log.now c.loop-i.i c.loop-i.cells (omega arith)),
    ) (ap (put_back c.args.log.now) c.loop-i.invariant.1)

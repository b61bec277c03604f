use Rattle.cells.specs.Layout.{unpack_of}
use Rattle.paper.proofs.Kit.{lt-ltb, le-ltb}
use Rattle.cells.proofs.unpack.Goals as goal

pub returns-then-x-lt-FREE : goal.returns-then-x-lt-FREE
unfolding unpack_of
returns-then-x-lt-FREE c = simp (lt-ltb _ _ c.if-x-lt-FREE.true)

pub returns-then-x-lt-TERM : goal.returns-then-x-lt-TERM
unfolding unpack_of
returns-then-x-lt-TERM c = simp (le-ltb _ _ c.if-x-lt-FREE.false, lt-ltb _ _ c.if-x-lt-TERM.true)

pub returns-then-x-lt-PROCESS : goal.returns-then-x-lt-PROCESS
unfolding unpack_of
returns-then-x-lt-PROCESS c =
    simp
    (le-ltb _ _ c.if-x-lt-FREE.false, le-ltb _ _ c.if-x-lt-TERM.false, lt-ltb _ _ c.if-x-lt-PROCESS.true)

pub returns : goal.returns
unfolding unpack_of
returns c = simp (le-ltb _ _ c.if-x-lt-FREE.false, le-ltb _ _ c.if-x-lt-TERM.false, le-ltb _ _ c.if-x-lt-PROCESS.false)

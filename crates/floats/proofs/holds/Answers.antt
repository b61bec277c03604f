use Rattle.paper.proofs.Kit.{sym}
use Rattle.paper.specs.Term.{float_of}
use Rattle.floats.proofs.Laws.{answered, relates, pattern, compared}
use Rattle.floats.proofs.holds.Goals as goal

pub returns-then-is_nan : goal.returns-then-is_nan
returns-then-is_nan c = let x = c.args in sym ((relates x.k).left (float_of x.a) (float_of x.b) (answered c.is_nan.ensures c.if-is_nan.true))

pub returns-then-is_nan-2 : goal.returns-then-is_nan-2
returns-then-is_nan-2 c =
    let x = c.args in
    sym ((relates x.k).right (float_of x.a) (float_of x.b) (answered c.is_nan-2.ensures c.if-is_nan-2.true))

pub float_from_bits-a : goal.float_from_bits-a
float_from_bits-a c = pattern c.args.a (answered c.is_nan.ensures c.if-is_nan.false)

pub float_from_bits-b : goal.float_from_bits-b
float_from_bits-b c = pattern c.args.b (answered c.is_nan-2.ensures c.if-is_nan-2.false)

pub returns : goal.returns
returns c =
    let k = c.args.k in
    rw (c.eq.ensures, c.partial_cmp.ensures) (compared k _ _)

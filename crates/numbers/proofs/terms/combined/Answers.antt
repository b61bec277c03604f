use Rattle.paper.specs.Term.{float_of}
use Rattle.floats.specs.Kept.{operation_of}
use Rattle.numbers.proofs.Fitting.{operation-fits}
use Rattle.numbers.proofs.terms.combined.Goals as goal

pub returns-in-Floats : goal.returns-in-Floats
returns-in-Floats c =
    let m = c.args.minus in
    let x = c.in-Floats in
    rw x.is (c.of_kept.ensures ((operation_of m).of_floats (float_of x.a) (float_of x.b)) (operation-fits m _ _) c.combined.ensures)

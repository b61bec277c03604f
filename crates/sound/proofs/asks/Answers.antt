use Rattle.paper.proofs.Kit.{sym, ◌∙◌, arith, length}
use Rattle.sound.proofs.SoundLaws.{passed-end, size-range}
use Rattle.sound.proofs.AskLaws.{unfit-size, unfit-unsound}
use Rattle.sound.proofs.asks.Goals as goal

pub returns-then-not-size_fits : goal.returns-then-not-size_fits
returns-then-not-size_fits c = unfit-size _ _ (sym c.size_fits.ensures ∙ c.if-not-size_fits.true)

pub returns-then-not-sound : goal.returns-then-not-sound
returns-then-not-sound c =
    let e = sym c.size_fits.ensures ∙ c.if-not-size_fits.false in
    unfit-unsound _ _ e (sym c.sound.ensures ∙ c.if-not-sound.true)

pub overflow_cast-result : goal.overflow_cast-result
overflow_cast-result c =
    let a = c.args in
    let n = size-range (length a.cells.now) (sym c.size_fits.ensures ∙ c.if-not-size_fits.false) in
    let e = sym c.top.ensures in
    record { fits = omega (arith, n.1, passed-end a.regions a.cells.now (omega (arith, n.0)) (sym c.sound.ensures ∙ c.if-not-sound.false), e) }

pub returns : goal.returns
returns c =
    record {
      size = sym c.size_fits.ensures ∙ c.if-not-size_fits.false;
      sound = sym c.sound.ensures ∙ c.if-not-sound.false;
      end = sym c.top.ensures;
    }

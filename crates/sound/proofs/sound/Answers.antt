use Rattle.paper.proofs.Kit.{true, false, ap, ◌∙◌}
use Rattle.paper.specs.Sound.{free_list}
use Rattle.sound.proofs.SoundLaws.{from_first, at-none, at-some}
use Rattle.sound.proofs.sound.Goals as goal

pub returns-then-not-table-peek : goal.returns-then-not-table-peek
returns-then-not-table-peek c =
    let a = c.args in
    let table = c.regions_sound.ensures in
    from_first a.regions a.cells.now _ false _ table c.peek.ensures c.if-not-table-peek.true

pub returns-in-None : goal.returns-in-None
returns-in-None c =
    let a = c.args in
    let table = c.regions_sound.ensures in
    at-none a.regions a.cells.now _ _ c.top.ensures c.cells_sound.ensures c.in-None.is
    ∙ from_first a.regions a.cells.now _ true _ table c.peek.ensures c.if-not-table-peek.false

pub returns-in-Some : goal.returns-in-Some
returns-in-Some c =
    let a = c.args in
    let table = c.regions_sound.ensures in
    c.free_list.ensures
    ∙ ap (free_list _ _) c.free_start.ensures
    ∙ at-some a.regions a.cells.now _ _ c.top.ensures c.cells_sound.ensures _ c.in-Some.is
    ∙ from_first a.regions a.cells.now _ true _ table c.peek.ensures c.if-not-table-peek.false

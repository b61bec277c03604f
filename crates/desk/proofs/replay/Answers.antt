use Rattle.paper.proofs.Kit.{ap, ◌∙◌}
use Rattle.desk.specs.Page.{printed}
use Rattle.desk.proofs.PageLaws.{deck-counted, prints-run, prints-answer}
use Rattle.desk.proofs.replay.Goals as goal

pub slice_bounds-load-end : goal.slice_bounds-load-end
slice_bounds-load-end c = deck-counted _ c.deck_size-n.ensures

pub returns-in-Loaded : goal.returns-in-Loaded
returns-in-Loaded c =
    let read = c.deck_size-n.ensures in
    c.run.ensures ∙ ap printed (prints-run _ read c.load-l.ensures c.in-Loaded.is)

pub returns-in_default : goal.returns-in_default
returns-in_default c =
    let read = c.deck_size-n.ensures in
    c.not_loaded.ensures
    ∙ ap printed (prints-answer _ read c.load-l.ensures
    c.in_default.not-Loaded)

use Rattle.deck.proofs.FreshLaws.{begun}
use Rattle.deck.proofs.fresh.begin.Goals as goal

pub returns : goal.returns
returns c = (
  begun _ _ _ c.lay.new.cells c.args.names.now _ _ _ c.top.ensures c.lay.ensures.0 (c.fill.ensures.after (λ y e. e)) c.requires.marks
      c.forget.ensures c.none.ensures,
  c.lay.ensures.1,
)

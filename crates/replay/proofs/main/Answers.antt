use Rattle.paper.proofs.Kit.{sym, length-take-le}
use Rattle.desk.proofs.PageLaws.{text-within}
use Rattle.replay.proofs.main.Goals as goal

pub slice_bounds-bytes-end : goal.slice_bounds-bytes-end
slice_bounds-bytes-end c = text-within _ c.replay-n.ensures

pub slice_bounds-write_all-end : goal.slice_bounds-write_all-end
slice_bounds-write_all-end c = sym (length-take-le _ _ (text-within _ c.replay-n.ensures))

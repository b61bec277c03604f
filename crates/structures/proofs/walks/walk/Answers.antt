use Rattle.paper.proofs.Kit.{[], arith}
use Rattle.paper.specs.Walk.{walk_back, walk_of}
use Rattle.steps.proofs.Sequence.{bind, bind_err, give, same_err}
use Rattle.structures.proofs.Leads.{sized_on}
use Rattle.structures.proofs.Holding.{holds-only, holds-none, more-turns, ends-lists}
use Rattle.structures.proofs.walks.walk.Goals as goal

pub walk_links-requires : goal.walk_links-requires
walk_links-requires c = (holds-none c.requires c.args.scratch.now.unmarked (omega arith), omega arith)

pub returns-in_err-met : goal.returns-in_err-met
unfolding walk_back walk_of
returns-in_err-met c =
    let e = c.in_err-met.ensures in
    let w = ((e.says _ (more-turns c.requires c.args.scratch.now.unmarked)).is []).1 in
    rw (same_err c.from_residual.ensures.1) (record { says = bind_err _ (sized_on _ w); listed = tt })

pub returns : goal.returns
unfolding walk_back walk_of
returns c =
    let e = c.in_ok-met.ensures in
    let w = ((e.says _ (more-turns c.requires c.args.scratch.now.unmarked)).is []).1 in
    ends-lists e (bind _ (sized_on _ w) give)

pub clear-requires : goal.clear-requires
clear-requires c = let e = c.in_ok-met.ensures in holds-only e.left.0

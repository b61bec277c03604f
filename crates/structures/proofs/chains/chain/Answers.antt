use Rattle.paper.proofs.Kit.{sym, ◌∙◌, arith}
use Rattle.steps.proofs.Sequence.{same_err}
use Rattle.structures.proofs.Holding.{holds-only, holds-none, more-turns, holds_more, seen_more, ends-lists}
use Rattle.structures.proofs.Turn.{chain-not, chain-new, chain-one, chain-long}
use Rattle.structures.proofs.chains.chain.Goals as goal

pub returns-in_err-x : goal.returns-in_err-x
returns-in_err-x c = rw (same_err c.from_residual.ensures.1) (record { says = chain-not _ c.in_err-x.ensures; listed = tt })

pub returns-then-is_term : goal.returns-then-is_term
returns-then-is_term c =
    let m = c.in_ok-x.ensures in
    let s = c.args.scratch.now in
    let w = chain-new _ m s.order in
    let h = holds-none c.requires s.unmarked (omega arith) in
    record {
      says = chain-one _ m (sym c.is_term.ensures ∙ c.if-is_term.true) (sym (seen_more h _ w));
      listed = (omega (arith, w.used.inside), (holds_more h _ w).ordered);
    }

pub chain_links-requires : goal.chain_links-requires
chain_links-requires c = holds-none c.requires c.args.scratch.now.unmarked (omega arith)

pub returns-in_err-met : goal.returns-in_err-met
returns-in_err-met c =
    let e = c.in_err-met.ensures in
    rw (same_err c.from_residual-in_err-met.ensures.1) (record {
      says = chain-long _ c.in_ok-x.ensures (sym c.is_term.ensures ∙ c.if-is_term.false) (e.says _ (more-turns c.requires c.args.scratch.now.unmarked));
      listed = tt;
    })

pub returns : goal.returns
returns c =
    let e = c.in_ok-met.ensures in
    ends-lists e
    (chain-long _ c.in_ok-x.ensures (sym c.is_term.ensures ∙ c.if-is_term.false) (e.says _ (more-turns c.requires c.args.scratch.now.unmarked)))

pub clear-requires : goal.clear-requires
clear-requires c = let e = c.in_ok-met.ensures in holds-only e.left.0

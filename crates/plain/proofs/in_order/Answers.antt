use Rattle.paper.proofs.Kit.{ℕ, ◌++◌, length}
use Rattle.paper.specs.Limits.{largest_n}
use Rattle.std.proofs.lemmas.List.{drop-replicate}
use Rattle.plain.proofs.in_order.Goals as goal

pub returns : goal.returns
returns c =
    λ i. c.copy_from_slice.ensures.after i ++ drop-replicate {X = ℕ} (length c.args.met.now) largest_n 0 i

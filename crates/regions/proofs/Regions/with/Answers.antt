use Rattle.regions.specs.Table.{with_region}
use Rattle.paper.proofs.Kit.{lt-ltb, le-ltb}
use Rattle.regions.proofs.Regions.with.Goals as goal

pub returns-then-n-lt-MANY_REGIONS : goal.returns-then-n-lt-MANY_REGIONS
unfolding with_region
returns-then-n-lt-MANY_REGIONS c = simp (lt-ltb _ _ c.if-n-lt-MANY_REGIONS.true)

pub returns-else-n-lt-MANY_REGIONS : goal.returns-else-n-lt-MANY_REGIONS
unfolding with_region
returns-else-n-lt-MANY_REGIONS c = simp (le-ltb _ _ c.if-n-lt-MANY_REGIONS.false)

-- `stats::raise_if` meets its contract. Assumes nothing.
use Rattle.logic.specs.Test.{when◌then◌else◌}
use Rattle.stats.specs.Stats.{raised_if}
use Rattle.stats.proofs.raise_if.Goals as goal

pub returns-then-on : goal.returns-then-on
unfolding raised_if when◌then◌else◌
returns-then-on c = rw c.if-on.true c.raise.ensures

pub returns-else-on : goal.returns-else-on
unfolding raised_if when◌then◌else◌
returns-else-on c = rw c.if-on.false

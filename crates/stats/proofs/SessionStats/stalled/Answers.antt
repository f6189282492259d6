-- `stats::SessionStats::stalled` meets its contract: the count is raised, or raised from 0. Assumes nothing.
use Rattle.std.proofs.Common.{rules}
use Rattle.logic.specs.Test.{when◌then◌else◌}
use Rattle.stats.specs.Stats.{stalled_of}
use Rattle.stats.proofs.SessionStats.stalled.Goals.{then-again, else-again}
use Rattle.stats.proofs.SessionStats.stalled.Goals as goal

pub returns : goal.returns
unfolding stalled_of when◌then◌else◌
returns c = elim c.if-again.branch [ then-again w ↦ search rules | else-again w ↦ search rules ]

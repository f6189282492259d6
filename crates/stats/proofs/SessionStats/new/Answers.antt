-- `stats::SessionStats::new` meets its contract. Assumes nothing.
use Rattle.std.proofs.Common.{rules}
use Rattle.stats.specs.Stats.{no_stats}
use Rattle.stats.proofs.SessionStats.new.Goals as goal

pub returns : goal.returns
unfolding no_stats
returns c = search rules

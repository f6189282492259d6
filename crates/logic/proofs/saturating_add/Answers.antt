-- `logic::saturating_add` meets its contract. Assumes nothing.
use Rattle.std.proofs.Common.{rules}
use Rattle.logic.specs.Saturating.{sum}
use Rattle.logic.proofs.saturating_add.Goals as goal

pub returns : goal.returns
unfolding sum
returns c = search rules

-- `logic::raise` meets its contract. Assumes nothing.
use Rattle.std.proofs.Common.{rules}
use Rattle.logic.specs.Saturating.{raised}
use Rattle.logic.proofs.raise.Goals as goal

pub returns : goal.returns
unfolding raised
returns c = search rules

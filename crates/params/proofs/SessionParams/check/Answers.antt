-- `params::SessionParams::check` meets its contract. Assumes nothing.
use Rattle.std.proofs.Common.{rules}
use Rattle.logic.specs.Test.{when◌then◌else◌}
use Rattle.params.specs.Params.{check_of}
use Rattle.params.proofs.SessionParams.check.Goals as goal

pub returns-then-bad_state : goal.returns-then-bad_state
unfolding check_of when◌then◌else◌
returns-then-bad_state c = search rules

pub returns-else-bad_state : goal.returns-else-bad_state
unfolding check_of when◌then◌else◌
returns-else-bad_state c = search rules

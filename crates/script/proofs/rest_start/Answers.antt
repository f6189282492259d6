-- `script::rest_start` meets its contract. Assumes nothing.
use Rattle.std.proofs.Common.{rules}
use Rattle.logic.specs.Test.{when◌then◌else◌}
use Rattle.script.specs.Records.{rest_start}
use Rattle.script.proofs.rest_start.Goals as goal

pub returns-in-2 : goal.returns-in-2
unfolding rest_start when◌then◌else◌
returns-in-2 c = search rules

pub returns-in-4 : goal.returns-in-4
unfolding rest_start when◌then◌else◌
returns-in-4 c = search rules

pub returns-in_default : goal.returns-in_default
unfolding rest_start when◌then◌else◌
returns-in_default c = search rules

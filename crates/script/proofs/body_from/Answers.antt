-- `script::body_from` meets its contract: each kind by its own number. Assumes nothing.
use Rattle.std.proofs.Common.{rules}
use Rattle.logic.specs.Test.{when◌then◌else◌}
use Rattle.script.specs.Records.{body_from}
use Rattle.script.proofs.body_from.Goals as goal

pub returns-in-3 : goal.returns-in-3
unfolding body_from when◌then◌else◌
returns-in-3 c = search rules

pub returns-in-4 : goal.returns-in-4
unfolding body_from when◌then◌else◌
returns-in-4 c = search rules

pub returns-in-5 : goal.returns-in-5
unfolding body_from when◌then◌else◌
returns-in-5 c = search rules

pub returns-in-6 : goal.returns-in-6
unfolding body_from when◌then◌else◌
returns-in-6 c = search rules

pub returns-in_default : goal.returns-in_default
unfolding body_from when◌then◌else◌
returns-in_default c = search rules

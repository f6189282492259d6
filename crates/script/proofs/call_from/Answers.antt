-- `script::call_from` meets its contract: each kind by its own number. Assumes nothing.
use Rattle.std.proofs.Common.{rules}
use Rattle.logic.specs.Test.{when◌then◌else◌}
use Rattle.script.specs.Records.{world_of, call_from}
use Rattle.script.proofs.call_from.Goals as goal

pub returns-in-2 : goal.returns-in-2
unfolding world_of call_from when◌then◌else◌
returns-in-2 c = search rules

pub returns-in-8 : goal.returns-in-8
unfolding world_of call_from when◌then◌else◌
returns-in-8 c = search rules

pub returns-in-9 : goal.returns-in-9
unfolding world_of call_from when◌then◌else◌
returns-in-9 c = search rules

pub returns-in-10 : goal.returns-in-10
unfolding world_of call_from when◌then◌else◌
returns-in-10 c = search rules

pub returns-in-11 : goal.returns-in-11
unfolding world_of call_from when◌then◌else◌
returns-in-11 c = search rules

pub returns-in-3-to-7 : goal.returns-in-3-to-7
unfolding world_of call_from when◌then◌else◌
returns-in-3-to-7 c = search rules

pub returns-in_default : goal.returns-in_default
unfolding world_of call_from when◌then◌else◌
returns-in_default c = search rules

pub returns-in_default-2 : goal.returns-in_default-2
unfolding world_of call_from when◌then◌else◌
returns-in_default-2 c = search rules

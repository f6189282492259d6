-- `script::right_length` meets its contract: each kind by its own number. Assumes nothing.
use Rattle.std.proofs.Common.{rules}
use Rattle.logic.specs.Test.{when◌then◌else◌}
use Rattle.script.specs.Records.{right_length}
use Rattle.script.proofs.right_length.Goals as goal

pub returns-in-1 : goal.returns-in-1
unfolding right_length when◌then◌else◌
returns-in-1 c = search rules

pub returns-in-2 : goal.returns-in-2
unfolding right_length when◌then◌else◌
returns-in-2 c = search rules

pub returns-in-3 : goal.returns-in-3
unfolding right_length when◌then◌else◌
returns-in-3 c = search rules

pub returns-in-4 : goal.returns-in-4
unfolding right_length when◌then◌else◌
returns-in-4 c = search rules

pub returns-in-5 : goal.returns-in-5
unfolding right_length when◌then◌else◌
returns-in-5 c = search rules

pub returns-in-6 : goal.returns-in-6
unfolding right_length when◌then◌else◌
returns-in-6 c = search rules

pub returns-in-7 : goal.returns-in-7
unfolding right_length when◌then◌else◌
returns-in-7 c = search rules

pub returns-in-8 : goal.returns-in-8
unfolding right_length when◌then◌else◌
returns-in-8 c = search rules

pub returns-in-9 : goal.returns-in-9
unfolding right_length when◌then◌else◌
returns-in-9 c = search rules

pub returns-in-10-to-12 : goal.returns-in-10-to-12
unfolding right_length when◌then◌else◌
returns-in-10-to-12 c = search rules

pub returns-in_default : goal.returns-in_default
unfolding right_length when◌then◌else◌
returns-in_default c = search rules

pub returns-in_default-2 : goal.returns-in_default-2
unfolding right_length when◌then◌else◌
returns-in_default-2 c = search rules

-- `script::message_from` meets its contract. Assumes nothing.
use Rattle.std.proofs.Common.{rules}
use Rattle.logic.specs.Test.{when◌then◌else◌}
use Rattle.script.specs.Records.{message_from}
use Rattle.script.proofs.message_from.Goals as goal

pub returns : goal.returns
unfolding message_from when◌then◌else◌
returns c = search rules

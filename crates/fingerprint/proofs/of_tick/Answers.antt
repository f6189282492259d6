-- `fingerprint::of_tick` meets its contract. Assumes nothing.
use Rattle.std.proofs.Common.{rules}
use Rattle.logic.specs.Test.{when◌then◌else◌}
use Rattle.fingerprint.specs.Cells.{of_tick}
use Rattle.fingerprint.proofs.of_tick.Goals as goal

pub returns : goal.returns
unfolding of_tick when◌then◌else◌
returns c = search rules

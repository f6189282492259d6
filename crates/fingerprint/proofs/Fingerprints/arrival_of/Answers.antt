-- `fingerprint::Fingerprints::arrival_of` meets its contract: what is no print of the tick is new.
-- Assumes nothing.
use Rattle.std.proofs.Common.{rules}
use Rattle.logic.specs.Test.{when◌then◌else◌}
use Rattle.fingerprint.specs.Cells.{of_tick, remote_for}
use Rattle.fingerprint.specs.Judging.{arrival_by, arrival}
use Rattle.fingerprint.proofs.Fingerprints.arrival_of.Goals as goal

pub returns-in-None : goal.returns-in-None
unfolding arrival arrival_by remote_for of_tick when◌then◌else◌
returns-in-None c = search rules

pub returns-in-Some : goal.returns-in-Some
unfolding arrival arrival_by remote_for of_tick when◌then◌else◌
returns-in-Some c = search rules

pub returns-in-Some-2 : goal.returns-in-Some-2
unfolding arrival arrival_by remote_for of_tick when◌then◌else◌
returns-in-Some-2 c = search rules

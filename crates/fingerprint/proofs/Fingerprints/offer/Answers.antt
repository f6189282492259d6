-- `fingerprint::Fingerprints::offer` meets its contract: each return goes by the tests on its way. Assumes nothing.
use Rattle.std.proofs.Common.{rules}
use Rattle.logic.specs.Test.{when◌then◌else◌}
use Rattle.fingerprint.specs.LastAgreed.{offer}
use Rattle.fingerprint.proofs.Fingerprints.offer.Goals as goal

pub returns-in_err-mine : goal.returns-in_err-mine
unfolding offer
returns-in_err-mine c = search rules

pub returns-then-all_agree : goal.returns-then-all_agree
unfolding offer when◌then◌else◌
returns-then-all_agree c = search rules

pub returns : goal.returns
unfolding offer when◌then◌else◌
returns c = search rules

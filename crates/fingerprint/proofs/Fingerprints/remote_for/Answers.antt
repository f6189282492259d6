-- `fingerprint::Fingerprints::remote_for` meets its contract. Assumes nothing.
use Rattle.fingerprint.specs.Cells.{remote_for}
use Rattle.fingerprint.proofs.Fingerprints.remote_for.Goals as goal

pub returns : goal.returns
unfolding remote_for
returns c = rw (← c.remote.ensures) c.of_tick.ensures

-- `fingerprint::Fingerprints::store_remote` meets its contract. Assumes nothing.
use Rattle.fingerprint.specs.Cells.{with_remote}
use Rattle.fingerprint.proofs.Fingerprints.store_remote.Goals as goal

pub returns : goal.returns
unfolding with_remote
returns c = rw (← c.remote_cell.ensures) c.store_at.ensures

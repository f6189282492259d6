-- `fingerprint::Fingerprints::store_own` meets its contract. Assumes nothing.
use Rattle.fingerprint.specs.Cells.{with_own}
use Rattle.fingerprint.proofs.Fingerprints.store_own.Goals as goal

pub returns : goal.returns
unfolding with_own
returns c = rw (← c.own_cell.ensures) c.store_at.ensures

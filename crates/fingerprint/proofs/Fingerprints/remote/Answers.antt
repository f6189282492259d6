-- `fingerprint::Fingerprints::remote` meets its contract. Assumes nothing.
use Rattle.fingerprint.specs.Cells.{remote}
use Rattle.fingerprint.proofs.Fingerprints.remote.Goals as goal

pub returns : goal.returns
unfolding remote
returns c = rw (← c.remote_cell.ensures) c.cell_at.ensures

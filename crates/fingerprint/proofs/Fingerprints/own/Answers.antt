-- `fingerprint::Fingerprints::own` meets its contract. Assumes nothing.
use Rattle.fingerprint.specs.Cells.{own}
use Rattle.fingerprint.proofs.Fingerprints.own.Goals as goal

pub returns : goal.returns
unfolding own
returns c = rw (← c.own_cell.ensures) c.cell_at.ensures

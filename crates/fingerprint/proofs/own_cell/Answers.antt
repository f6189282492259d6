-- `fingerprint::own_cell` meets its contract. Assumes nothing.
use Rattle.fingerprint.specs.Cells.{own_cell}
use Rattle.fingerprint.proofs.own_cell.Goals as goal

pub returns : goal.returns
unfolding own_cell
returns c = c.digest_slot.ensures

-- `fingerprint::remote_cell` meets its contract. Assumes nothing.
use native.Mathlib.Omega.{arith}
use Rattle.fingerprint.specs.Cells.{remote_cell}
use Rattle.fingerprint.proofs.Laws.{own_cell_lt}
use Rattle.fingerprint.proofs.remote_cell.Goals as goal

pub overflow_add-result-2 : goal.overflow_add-result-2
overflow_add-result-2 c = omega (arith, own_cell_lt c.args.tick)

pub returns : goal.returns
unfolding remote_cell
returns c = rw c.own_cell.ensures

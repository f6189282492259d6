-- `fingerprint::Fingerprints::parted` meets its contract: one's own print for the tick has that tick. Assumes nothing.
use native.Mathlib.Omega.{arith}
use Rattle.fingerprint.specs.Cells.{own_for}
use Rattle.fingerprint.specs.Judging.{parted_by, parted}
use Rattle.fingerprint.proofs.Laws.{of_tick_holds}
use Rattle.fingerprint.proofs.Fingerprints.parted.Goals as goal

pub returns : goal.returns
unfolding parted parted_by own_for
returns c = grind (arith, of_tick_holds)

-- `fingerprint::Fingerprints::store_at` meets its contract: past the end nothing changes. Assumes nothing.
use mathlib.Core.Path.{refl, sym}
use native.Mathlib.Omega.{arith}
use Rattle.fingerprint.specs.Cells.{stored_at}
use Rattle.fingerprint.proofs.Laws.{Sized, stored_beyond}
use Rattle.fingerprint.proofs.Fingerprints.store_at.Goals as goal

pub returns-then-cell-lt-CELLS : goal.returns-then-cell-lt-CELLS
unfolding stored_at
returns-then-cell-lt-CELLS c = refl

pub returns-else-cell-lt-CELLS : goal.returns-else-cell-lt-CELLS
returns-else-cell-lt-CELLS c =
    let sized : Sized c.args.self.now = record {
      held = omega arith;
      ticks = omega arith;
      states = omega arith;
      inputs = omega arith;
    } in
    sym (stored_beyond _ _ _ sized c.if-cell-lt-CELLS.false)

-- `fingerprint::Fingerprints::last_agreed` meets its contract: the loop's invariant says that `best` is the highest
-- that the cells so far offer. Assumes nothing.
use Rattle.std.proofs.Common.{rules}
use mathlib.Core.Path.{◌≡◌, refl}
use native.Mathlib.Numerals.{add-one}
use native.Mathlib.Omega.{arith}
use Rattle.peer.specs.Cells.{history}
use Rattle.fingerprint.specs.LastAgreed.{agreed_in, last_agreed}
use Rattle.fingerprint.proofs.Highest.{higher-max}
use Rattle.fingerprint.proofs.Fingerprints.last_agreed.Goals as goal

pub loop-cell-init : goal.loop-cell-init
unfolding agreed_in
loop-cell-init c = (omega arith, refl)

pub loop-cell-preserved : goal.loop-cell-preserved
unfolding agreed_in
loop-cell-preserved c = (omega arith, rw (add-one, ← c.loop-cell.invariant.1, higher-max) (search rules))

pub returns : goal.returns
unfolding last_agreed
returns c =
    let all : c.loop-cell.cell ≡ history = omega arith in
    rw (← all) c.loop-cell.invariant.1

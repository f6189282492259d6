use Rattle.std.proofs.Common.{◌≡◌, ◌≤◌, ◌-◌}
use Rattle.peer.specs.Cells.{history}
use Rattle.fingerprint.specs.LastAgreed.{agreed_in}
use Rattle.fingerprint.proofs.Fingerprints.last_agreed.Given as goal

abbrev pub invariant-loop-cell : goal.invariant-loop-cell
invariant-loop-cell l = (l.cell ≤ history) × (l.best ≡ agreed_in l.self l.remotes.0 l.tick l.cell)

abbrev pub decreases-loop-cell : goal.decreases-loop-cell
decreases-loop-cell l = history - l.cell

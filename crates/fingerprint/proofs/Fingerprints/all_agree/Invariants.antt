use Rattle.std.proofs.Common.{◌≡◌, Bool, true, not, ◌||◌, ℕ, ◌<◌, ◌≤◌, ◌-◌}
use Rattle.peer.specs.Seats.{seats, has}
use Rattle.fingerprint.specs.declared.Fingerprint.{Fingerprint}
use Rattle.fingerprint.specs.declared.Fingerprints.{Fingerprints}
use Rattle.fingerprint.specs.Cells.{remote_for}
use Rattle.fingerprint.specs.Judging.{agrees}
use Rattle.fingerprint.proofs.Fingerprints.all_agree.Given as goal

-- seat k does not deny the print
abbrev pub passes : Fingerprints → ℕ → Fingerprint → ℕ → Bool
passes p remotes mine k = not (has remotes k) || agrees mine.state (remote_for p k mine.tick)

abbrev pub invariant-loop-seat : goal.invariant-loop-seat
invariant-loop-seat l =
    (l.seat ≤ seats) × ((k : ℕ) → k < l.seat → passes l.self l.remotes.0 l.mine k ≡ true)

abbrev pub decreases-loop-seat : goal.decreases-loop-seat
decreases-loop-seat l = seats - l.seat

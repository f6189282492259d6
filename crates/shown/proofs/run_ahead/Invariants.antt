use Rattle.std.specs.Prelude.{◌≡◌, ℕ, ◌+◌, ◌≤◌, ◌<◌, true}
use Rattle.peer.specs.Cells.{window}
use Rattle.shown.specs.Ahead.{is_ready}
use Rattle.shown.proofs.run_ahead.Given as goal

abbrev pub invariant-loop-distance : goal.invariant-loop-distance
invariant-loop-distance l =
    (l.distance ≤ window)
    × ((k : ℕ) → k < l.distance → is_ready l.s.head l.s.window (l.s.head.play.pending + k) ≡ true)

use Rattle.std.specs.Prelude.{◌≡◌, ◌-◌}
use Rattle.peer.specs.Seats.{seats}
use Rattle.pump.specs.Pump.{next_remote}
use Rattle.pump.proofs.next_remote.Given as goal

abbrev pub invariant-loop-seat : goal.invariant-loop-seat
invariant-loop-seat l = next_remote l.remotes.0 l.place (seats - l.place) ≡ next_remote l.remotes.0 l.seat (seats - l.seat)

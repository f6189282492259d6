use mathlib.Core.Path.{◌≡◌}
use Rattle.peer.specs.Seats.{seats}
use Rattle.peer.proofs.Loops.{built}
use Rattle.desync.specs.Report.{differs}
use Rattle.desync.proofs.unlike.Given as goal

abbrev pub invariant-loop-seat : goal.invariant-loop-seat
invariant-loop-seat l = l.set.0 ≡ built seats (differs l.asked.0 l.there.0 l.numbers l.own) l.seat

use mathlib.Core.Path.{◌≡◌}
use Rattle.logic.proofs.Tabulated.{Filled}
use Rattle.peer.specs.Seats.{seats}
use Rattle.peer.proofs.Loops.{built}
use Rattle.desync.specs.Report.{print_in, is_held, heard_from}
use Rattle.desync.proofs.heard_all.Given as goal

abbrev pub invariant-loop-seat : goal.invariant-loop-seat
invariant-loop-seat l =
    let from = heard_from l.remotes.0 l.prints l.tick in
    (l.there.0 ≡ built seats (λ k. is_held (from k)) l.seat)
    × Filled 0 (λ k. (print_in (from k)).state) seats l.seat l.states
    × Filled 0 (λ k. (print_in (from k)).input) seats l.seat l.inputs

use Rattle.desync.proofs.Loops.{Listed}
use Rattle.desync.proofs.seat_list.Given as goal

abbrev pub invariant-loop-seat : goal.invariant-loop-seat
invariant-loop-seat l = Listed l.initial.out l.set.0 l.seat l.out l.position

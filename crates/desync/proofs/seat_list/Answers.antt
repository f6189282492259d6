-- `desync::seat_list` meets its contract: the seats so far are listed. Assumes nothing.
use mathlib.Core.Path.{◌≡◌, sym, ◌∙◌}
use native.Mathlib.Omega.{arith}
use Rattle.peer.specs.Seats.{seats}
use Rattle.text.proofs.Writing.{put_on}
use Rattle.desync.proofs.Loops.{listed_none, listed_in, listed_out}
use Rattle.desync.proofs.seat_list.Goals as goal
use Rattle.desync.proofs.seat_list.Goals.{then-contains, else-contains}

pub loop-seat-init : goal.loop-seat-init
loop-seat-init c = listed_none _ _ (put_on _ _ c.piece.ensures)

pub loop-seat-preserved : goal.loop-seat-preserved
loop-seat-preserved c =
    let i = c.loop-seat.invariant in
    elim c.if-contains.branch [
      | then-contains w ↦
          rw (w.out-is, w.position-is)
          (listed_in i (sym c.contains.ensures ∙ w.if-contains.true)
          (rw (w.comma.ensures, w.from.ensures) at w.decimal.ensures))
      | else-contains w ↦
          rw (w.out-is, w.position-is) (listed_out i (sym c.contains.ensures ∙ w.if-contains.false))
    ]

pub returns : goal.returns
returns c =
    let all : c.loop-seat.seat ≡ seats = omega arith in
    rw c.piece.ensures at (rw all at c.loop-seat.invariant.written)

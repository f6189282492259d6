-- `desync::heard_all` meets its contract: the seats so far are heard. Assumes nothing.
use mathlib.Core.Path.{◌≡◌, refl, sym, ◌∙◌}
use native.Mathlib.Omega.{arith}
use Rattle.logic.proofs.Tabulated.{filled_none, filled_more, filled_all}
use Rattle.peer.specs.Seats.{seats}
use Rattle.peer.proofs.Loops.{built_none, built_with, built_skip, built_all}
use Rattle.desync.specs.Report.{heard_all}
use Rattle.desync.proofs.heard_all.Goals as goal
use Rattle.desync.proofs.heard_all.Goals.{then-is_some, else-is_some}

pub loop-seat-init : goal.loop-seat-init
loop-seat-init c = (sym (built_none _ _), filled_none refl, filled_none refl)

pub loop-seat-preserved : goal.loop-seat-preserved
loop-seat-preserved c =
    let i = c.loop-seat.invariant in (
      elim c.if-is_some.branch [
        | then-is_some w ↦
            rw (w.there-is, w.with-there.ensures, i.0)
            (built_with seats _ _ (rw (← c.heard_from-cell.ensures) (sym c.is_some.ensures ∙ w.if-is_some.true)))
        | else-is_some w ↦
            rw (w.there-is, i.0)
            (built_skip seats _ _ (rw (← c.heard_from-cell.ensures) (sym c.is_some.ensures ∙ w.if-is_some.false)))
      ],
      rw c.from.ensures
          (filled_more i.1 (omega arith) (rw (c.print_in-print.ensures, c.heard_from-cell.ensures))),
      rw c.from-in-loop-seat.ensures
          (filled_more i.2 (omega arith) (rw (c.print_in-print.ensures, c.heard_from-cell.ensures))),
    )

pub returns : goal.returns
unfolding heard_all
returns c =
    let all : c.loop-seat.seat ≡ seats = omega arith in
    let i = c.loop-seat.invariant in
    rw (
      c.bits.ensures,
      rw all at i.0 ∙ built_all _ _,
      filled_all i.1 (omega arith),
      filled_all i.2 (omega arith),
    )

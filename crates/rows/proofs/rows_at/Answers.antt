-- `rows::rows_at` meets its contract: the loop has the rows of the first seats. Assumes nothing.
use mathlib.Core.Path.{refl, ◌∙◌}
use native.Mathlib.Omega.{arith}
use Rattle.logic.specs.Test.{when◌then◌else◌}
use Rattle.logic.specs.Tabulate.{tabulate}
use Rattle.rows.specs.Rows.{padded, rows_of}
use Rattle.rows.proofs.Loops.{rows_more, rows_upto}
use Rattle.rows.proofs.rows_at.Goals as goal

pub loop-seat-init : goal.loop-seat-init
unfolding tabulate padded rows_of when◌then◌else◌
loop-seat-init c = refl

pub loop-seat-preserved : goal.loop-seat-preserved
loop-seat-preserved c =
    let a = c.args in
    rw (c.loop-seat.invariant, c.from.ensures, c.row_of.ensures)
    (rows_more a.window.now a.tick a.width c.loop-seat.seat (omega arith))

pub returns : goal.returns
returns c =
    let a = c.args in
    c.loop-seat.invariant ∙ rows_upto a.window.now a.tick a.width a.count c.loop-seat.seat (omega arith)

use mathlib.Core.Path.{◌≡◌}
use Rattle.rows.specs.Rows.{rows_of}
use Rattle.rows.proofs.rows_at.Given as goal

abbrev pub invariant-loop-seat : goal.invariant-loop-seat
invariant-loop-seat l = l.rows ≡ rows_of l.window l.tick l.seat l.width

use mathlib.Core.Path.{◌≡◌}
use Rattle.hash.specs.Fnv.{fnv}
use Rattle.rows.specs.Rows.{heads}
use Rattle.rows.proofs.step_digest.Given as goal

abbrev pub invariant-loop-row : goal.invariant-loop-row
invariant-loop-row l = l.h.value ≡ fnv l.initial.h.value (heads l.row-index l.width l.row-items)

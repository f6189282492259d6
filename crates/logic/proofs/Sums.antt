-- A sum that fits is the sum. Assumes nothing.
use Prim.Native.Nat.{ℕ, ◌+◌, ◌≤◌}
use mathlib.Core.Path.{◌≡◌}
use native.Mathlib.Omega.{arith}
use Rattle.logic.specs.Saturating.{most, sum}

pub sum_fits : (a b : ℕ) → a + b ≤ most → sum a b ≡ a + b
unfolding sum
sum_fits a b h = omega arith

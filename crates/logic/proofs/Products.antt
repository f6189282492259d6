-- Products that fit. Assumes nothing.
use Prim.Native.Nat.{ℕ, ◌+◌, ◌*◌, ◌^◌, ◌<◌}
use native.Mathlib.Nat.{le_of_lt, lt_of_le_of_lt, mul-le-mul_left}
use lib.Pow.{shl_lt}

-- a product of two numbers of k bits has at most k + k
pub mul_lt_pow : (k : ℕ) {a b : ℕ} → a < 2 ^ k → b < 2 ^ k → a * b < 2 ^ (k + k)
mul_lt_pow k {a} ha hb = lt_of_le_of_lt (mul-le-mul_left a (le_of_lt hb)) (shl_lt k k ha)

-- `hash::times_prime` meets its contract: the prime is 2^40 + 435, so a value times the prime is the value times each of
-- the two, added modulo 2^64. Assumes nothing.
use Rattle.std.proofs.Common.{◌≡◌, ℕ, ◌+◌, ◌*◌, ◌%◌, ◌∙◌, mul-add}
use native.Mathlib.Nat.{add-mod-mod, mod-add-mod}
use Rattle.hash.proofs.times_prime.Goals as goal

-- each part of a factor by itself
by_parts : (h a b m : ℕ) → (h * a % m + h * b % m) % m ≡ h * (a + b) % m
by_parts h a b m = rw (add-mod-mod, mod-add-mod, mul-add)

pub returns : goal.returns
returns c = c.wrapping_add_u64.ensures.value ∙ rw c.wrapping_mul.ensures (by_parts _ _ _ _)

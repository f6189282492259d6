-- `hash::wrapping_mul` meets its contract: each product of two halves fits, and together they are the product modulo
-- 2^64. Assumes nothing.
use Rattle.std.proofs.Common.{◌^◌, ◌∙◌, rules}
use Rattle.logic.proofs.Products.{mul_lt_pow}
use Rattle.hash.proofs.Halves.{halves}
use Rattle.hash.proofs.wrapping_mul.Goals as goal

pub overflow_mul-a1 : goal.overflow_mul-a1
overflow_mul-a1 c = record { fits = mul_lt_pow 32 (search rules) (search rules) }

pub overflow_mul-a0 : goal.overflow_mul-a0
overflow_mul-a0 c = record { fits = mul_lt_pow 32 (search rules) (search rules) }

pub overflow_mul-a0-2 : goal.overflow_mul-a0-2
overflow_mul-a0-2 c = record { fits = mul_lt_pow 32 (search rules) (search rules) }

pub returns : goal.returns
returns c =
    c.wrapping_add_u64.ensures.value ∙ rw c.wrapping_add_u64-cross.ensures.value
    (halves (2 ^ 32) c.args.a c.args.b)

-- Document 01: counters and ticks stop at 2^64-1, sums saturate, and so do differences. A difference of ℕ stops at 0 by
-- itself. Assumes nothing.
use Rattle.std.specs.Prelude.{ℕ, ◌+◌, min}

-- 2^64-1
abbrev pub most : ℕ
most = 18446744073709551615

-- a + b, stopping at 2^64-1
unfoldable pub sum : ℕ → ℕ → ℕ
sum a b = min (a + b) most

-- one more, stopping at 2^64-1
unfoldable pub raised : ℕ → ℕ
raised n = min (n + 1) most

-- Document 01, "State hash (added), FNV-1a 64": start at 14695981039346656037; for each byte the value is combined by
-- exclusive or, then multiplied modulo 2^64 by 1,099,511,628,211. u32 and u64 go in as little-endian bytes. No length
-- is mixed in. Assumes nothing.
use Rattle.std.specs.Prelude.{ℕ, zero, suc, ◌*◌, ◌/◌, ◌%◌, ◌^◌, List, [], ◌∷◌, bit_xor}

abbrev pub start : ℕ
start = 14695981039346656037

abbrev pub prime : ℕ
prime = 1099511628211

-- one byte: exclusive or, then times the prime, modulo 2^64
abbrev pub step : ℕ → ℕ → ℕ
step h b = bit_xor h b * prime % 2 ^ 64

-- the bytes of a list, first to last
unfoldable pub fnv : ℕ → List ℕ → ℕ
fnv h [] = h
fnv h (b ∷ bs) = fnv (step h b) bs

-- the n low bytes of v, the lowest first
unfoldable pub le_bytes : ℕ → ℕ → List ℕ
le_bytes zero v = []
le_bytes (suc n) v = v % 256 ∷ le_bytes n (v / 256)

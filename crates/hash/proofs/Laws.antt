-- Laws of FNV-1a: a run in two parts, the bound, and one byte more of a slice or of a number.
-- Assumes nothing.
use Rattle.std.proofs.Common.{◌≡◌, ℕ, zero, suc, ◌+◌, ◌-◌, ◌*◌, ◌/◌, ◌%◌, ◌^◌, ◌<◌, ◌≤◌, List, [], ◌∷◌, ◌++◌, length, get_or, drop, refl, ap, not-suc-le-zero, mod-lt, add-one, sub-one, drop_of_length-le, drop-cons, pow_pos}
use native.Mathlib.Nat.{div-div-eq-div-mul}
use lib.Bits.{bit_xor}
use Rattle.std.specs.Int.{w32, w64, to_le_bytes}
use Rattle.hash.specs.Fnv.{step, prime, fnv, le_bytes}

-- the bytes of two lists, one after the other
pub fnv-append : (h : ℕ) (xs ys : List ℕ) → fnv h (xs ++ ys) ≡ fnv (fnv h xs) ys
unfolding fnv
fnv-append h [] ys = refl
fnv-append h (x ∷ xs) ys = fnv-append (step h x) xs ys

-- a value of 64 bits stays one
pub fnv_lt : (h : ℕ) (xs : List ℕ) → h < 2 ^ 64 → fnv h xs < 2 ^ 64
unfolding fnv
fnv_lt h [] l = l
fnv_lt h (x ∷ xs) l = fnv_lt (step h x) xs (mod-lt (bit_xor h x * prime) (pow_pos 64))

-- the byte at i, then those after it
pub fnv_byte : (h : ℕ) (s : List ℕ) (i : ℕ) → i < length s
    → fnv (step h (get_or s i 0)) (drop (i + 1) s) ≡ fnv h (drop i s)
unfolding fnv
fnv_byte h s i l = rw (add-one, drop-cons s i 0)

-- nothing is left past the end
pub fnv_end : (h : ℕ) (s : List ℕ) (i : ℕ) → length s ≤ i → fnv h (drop i s) ≡ h
unfolding fnv
fnv_end h s i l = rw (drop_of_length-le s l)

-- the lowest byte, then those above it
pub fnv_low : (h v n : ℕ) → 0 < n → fnv (step h (v % 256)) (le_bytes (n - 1) (v / 256)) ≡ fnv h (le_bytes n v)
unfolding fnv le_bytes
fnv_low h v zero l = absurd (not-suc-le-zero l)
fnv_low h v (suc n) l = rw sub-one

pub fnv_none : (h v n : ℕ) → n ≤ 0 → fnv h (le_bytes n v) ≡ h
unfolding fnv le_bytes
fnv_none h v zero l = refl
fnv_none h v (suc n) l = absurd (not-suc-le-zero l)

pub length-le_bytes : (n v : ℕ) → length (le_bytes n v) ≡ n
unfolding le_bytes
length-le_bytes zero v = refl
length-le_bytes (suc n) v = ap suc (length-le_bytes n (v / 256))

-- the library's bytes of a number are those of the definition
pub le_bytes_4 : (v : ℕ) → to_le_bytes w32 v ≡ le_bytes 4 v
unfolding le_bytes
le_bytes_4 v = simp div-div-eq-div-mul refl

pub le_bytes_8 : (v : ℕ) → to_le_bytes w64 v ≡ le_bytes 8 v
unfolding le_bytes
le_bytes_8 v = simp div-div-eq-div-mul refl

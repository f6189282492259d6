-- Laws of hexadecimals: how long they are, and that a reader gets the number back, so no two are written alike.
-- Assumes nothing.
use Prim.Native.Nat.{ℕ, zero, suc, ◌+◌, ◌*◌, ◌<◌, ◌/◌, ◌%◌, ◌^◌}
use mathlib.Core.Path.{◌≡◌, refl, sym, ap, ◌∙◌}
use mathlib.Core.List.{List, [], ◌∷◌, ◌++◌, append_assoc, append-nil}
use native.Mathlib.Nat.{div-div-eq-div-mul, add-zero, zero-add, pow-suc, div-add-mod'}
use native.Mathlib.Omega.{arith}
use borrow.Author.Tests.{lt-ltb, le-ltb}
use lib.ListN.{length, take, get_or, length-append}
use lib.Seq.{take-suc}
use native.Mathlib.Numerals.{add-one}
use Rattle.logic.proofs.Cases.{case_lt, if_true, if_false}
use Rattle.std.specs.Int.{w64, to_be_bytes}
use Rattle.text.specs.Hex.{hex_digit, hex16, hex_digits, hex_bytes, hex_value, read_hex}

pub hex_length : (k n : ℕ) → length (hex_digits k n) ≡ k
unfolding hex_digits
hex_length zero n = refl
hex_length (suc k) n = rw (length-append, hex_length k (n / 16)) (omega arith)

pub hex_bytes_append : (xs ys : List ℕ) → hex_bytes (xs ++ ys) ≡ hex_bytes xs ++ hex_bytes ys
unfolding hex_bytes
hex_bytes_append [] ys = refl
hex_bytes_append (x ∷ xs) ys = rw (hex_bytes_append xs ys, append_assoc)

pub hex_bytes_length : (xs : List ℕ) → length (hex_bytes xs) ≡ 2 * length xs
unfolding hex_bytes
hex_bytes_length [] = refl
hex_bytes_length (x ∷ xs) = rw (length-append, hex_length, hex_bytes_length xs) (omega arith)

hex_bytes_one : (b : ℕ) → hex_bytes (b ∷ []) ≡ hex_digits 2 b
unfolding hex_bytes
hex_bytes_one b = append-nil (hex_digits 2 b)

pub hex_bytes_more : (s : List ℕ) (i : ℕ) → i < length s
    → hex_bytes (take (i + 1) s) ≡ hex_bytes (take i s) ++ hex_digits 2 (get_or s i 0)
hex_bytes_more s i h = rw (add-one, take-suc s i 0 h, hex_bytes_append, hex_bytes_one)

-- the digits of a byte of a number
upper : (n : ℕ) → n % 256 / 16 % 16 ≡ n / 16 % 16
upper n = omega arith

lower : (n : ℕ) → n % 256 % 16 ≡ n % 16
lower n = omega arith

-- sixteen digits are those of the eight bytes, the highest first
pub hex16_bytes : (n : ℕ) → hex_bytes (to_be_bytes w64 n) ≡ hex16 n
unfolding hex_bytes hex_digits
hex16_bytes n = simp (upper, lower, div-div-eq-div-mul) refl

-- ---- reading them back

hex_value_lem : (d : ℕ) → d < 16 → hex_value (hex_digit d) ≡ d
unfolding hex_value hex_digit
hex_value_lem d h =
    case_lt d 10
    (λ l. rw (if_true _ _ (lt-ltb d 10 l), if_true _ _ (lt-ltb (48 + d) 58 (omega arith))) (omega arith))
    (λ l. rw (if_false _ _ (le-ltb d 10 l), if_false _ _ (le-ltb (87 + d) 58 (omega arith))) (omega arith))

read_on : (k j n : ℕ) (rest : List ℕ) → n < 16 ^ k → read_hex (k + j) 0 (hex_digits k n ++ rest) ≡ read_hex j n rest
unfolding hex_digits read_hex
read_on zero j n rest h = let e : n ≡ 0 = omega arith in rw (e, zero-add)
read_on (suc k) j n rest h =
    let e : suc k + j ≡ k + suc j = omega arith in
    rw (
      e,
      append_assoc,
      read_on k (suc j) (n / 16) (hex_digit (n % 16) ∷ rest) (omega (arith, pow-suc 16 k)),
      hex_value_lem (n % 16) (omega arith),
      div-add-mod',
    )

-- a reader of k digits gives back a number below 16 ^ k and what stands after it
pub read_hex_lem : (k n : ℕ) (rest : List ℕ) → n < 16 ^ k → read_hex k 0 (hex_digits k n ++ rest) ≡ (n, rest)
unfolding read_hex
read_hex_lem k n rest h = rw add-zero at (read_on k 0 n rest h)

pub hex_cancel : (k m n : ℕ) (xs ys : List ℕ) → m < 16 ^ k → n < 16 ^ k → hex_digits k m ++ xs ≡ hex_digits k n ++ ys
    → (m ≡ n) × (xs ≡ ys)
hex_cancel k m n xs ys hm hn e =
    let p = sym (read_hex_lem k m xs hm) ∙ ap (read_hex k 0) e ∙ read_hex_lem k n ys hn in
    (ap (λ q. q.0) p, ap (λ q. q.1) p)

-- Laws of decimals: what one is, how long it is at most, and that a reader gets the number back, so no two are written
-- alike. Assumes nothing.
use Prim.Native.Nat.{ℕ, zero, suc, ◌+◌, ◌*◌, ◌-◌, ◌≤◌, ◌<◌, ◌/◌, ◌%◌, ◌^◌}
use mathlib.Core.Path.{◌≡◌, refl, sym, ap, ◌∙◌}
use mathlib.Core.List.{List, [], ◌∷◌, ◌++◌, append_assoc}
use native.Mathlib.Nat.{pow-suc, zero-mul, zero-add, div-add-mod'}
use native.Mathlib.Omega.{arith}
use borrow.Author.Tests.{lt-ltb, le-ltb, le-leb}
use lib.ListN.{length, length-append}
use Rattle.logic.proofs.Cases.{case_lt}
use Rattle.text.specs.Decimal.{digits, decimal, read_digits, read_decimal, NoDigit}

-- ---- what a decimal is

digits_small : (f n : ℕ) → n < 10 → digits (suc f) n ≡ (48 + n) ∷ []
unfolding digits
digits_small f n h = rw (lt-ltb n 10 h, digits)

digits_more : (f n : ℕ) → 10 ≤ n → digits (suc f) n ≡ digits f (n / 10) ++ ((48 + n % 10) ∷ [])
unfolding digits
digits_more f n h = rw (le-ltb n 10 h, digits)

digits_bound : (f g n : ℕ) → n < f → n < g → digits f n ≡ digits g n
digits_bound zero g n p q = absurd (omega arith)
digits_bound (suc f) zero n p q = absurd (omega arith)
digits_bound (suc f) (suc g) n p q =
    case_lt n 10
    (λ h. rw (digits_small f n h, digits_small g n h))
    (λ h. rw (digits_more f n h, digits_more g n h, digits_bound f g (n / 10) (omega arith) (omega arith)))

-- below ten it is one digit, else the decimal of n / 10 and the last digit
pub decimal_small : (n : ℕ) → n < 10 → decimal n ≡ (48 + n) ∷ []
unfolding decimal
decimal_small n h = digits_small n n h

pub decimal_more : (n : ℕ) → 10 ≤ n → decimal n ≡ decimal (n / 10) ++ ((48 + n % 10) ∷ [])
unfolding decimal
decimal_more n h = rw (digits_more n n h, digits_bound n (suc (n / 10)) (n / 10) (omega arith) (omega arith))

-- ---- how long it is

-- a number below 10 ^ k has at most k digits, where k is at least 1
pub decimal-length : (k n : ℕ) → n < 10 ^ suc k → length (decimal n) ≤ suc k
decimal-length zero n h = rw (decimal_small n (omega arith)) (omega arith)
decimal-length (suc k) n h =
    case_lt n 10
    (λ l. rw (decimal_small n l) (omega arith))
    (λ l.
    let tenth : n / 10 < 10 ^ suc k = omega (arith, pow-suc 10 (suc k)) in
    rw (decimal_more n l, length-append) (omega (arith, decimal-length k (n / 10) tenth)))

-- a u64 has at most twenty
pub decimal_20 : (n : ℕ) → n < 2 ^ 64 → length (decimal n) ≤ 20
decimal_20 n h = decimal-length 19 n (omega arith)

-- ---- reading it back

read_digit : (acc d : ℕ) (rest : List ℕ) → d < 10 → read_digits acc ((48 + d) ∷ rest) ≡ read_digits (acc * 10 + d) rest
unfolding read_digits
read_digit acc d rest h =
    let back : 48 + d - 48 ≡ d = omega arith in
    rw (le-leb 48 (48 + d) (omega arith), lt-ltb (48 + d) 58 (omega arith), read_digits, back)

read_stop : (acc : ℕ) (rest : List ℕ) → NoDigit rest → read_digits acc rest ≡ (acc, rest)
unfolding read_digits
read_stop acc [] h = refl
read_stop acc (b ∷ bs) h = rw (h, read_digits)

read_on : (bound n : ℕ) (rest : List ℕ) → n < bound → read_digits 0 (decimal n ++ rest) ≡ read_digits n rest
read_on zero n rest h = absurd (omega arith)
read_on (suc bound) n rest h =
    case_lt n 10
    (λ l. rw (decimal_small n l, read_digit 0 n rest l, zero-mul, zero-add))
    (λ l. rw (
      decimal_more n l,
      append_assoc,
      read_on bound (n / 10) _ (omega arith),
      read_digit (n / 10) (n % 10) rest (omega arith),
      div-add-mod',
    ))

-- the reader gives back the number and what stands after it
pub read_decimal_lem : (n : ℕ) (rest : List ℕ) → NoDigit rest → read_decimal (decimal n ++ rest) ≡ (n, rest)
read_decimal_lem n rest h = read_on (suc n) n rest (omega arith) ∙ read_stop n rest h

pub decimal_injective : (m n : ℕ) → decimal m ≡ decimal n → m ≡ n
decimal_injective m n e =
    ap (λ p. p.0) (sym (read_decimal_lem m [] tt) ∙ ap (λ l. read_decimal (l ++ [])) e ∙ read_decimal_lem n [] tt)

-- also where more follows, if that begins with no digit
pub decimal_cancel : (m n : ℕ) (xs ys : List ℕ) → NoDigit xs → NoDigit ys → decimal m ++ xs ≡ decimal n ++ ys
    → (m ≡ n) × (xs ≡ ys)
decimal_cancel m n xs ys hx hy e =
    let p = sym (read_decimal_lem m xs hx) ∙ ap read_decimal e ∙ read_decimal_lem n ys hy in
    (ap (λ q. q.0) p, ap (λ q. q.1) p)

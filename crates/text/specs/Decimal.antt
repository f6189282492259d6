-- A number in decimal, as document 01's lines and the JSON of a report have it: its digits as bytes, without leading
-- zeros. And what such a text says: a reader, to state that no two numbers are written alike. Assumes nothing.
use Rattle.std.specs.Prelude.{ℕ, zero, suc, ◌+◌, ◌-◌, ◌*◌, ◌/◌, ◌%◌, ◌≡◌, Bool, true, false, ◌&&◌, List, [], ◌∷◌, ◌++◌, ltb, leb}

-- below ten one digit, else the digits of n / 10 and then the last one; the first number only bounds how many, and any
-- above n serves. Not by `if`: antt computes the arms of that first, and would run through the whole bound
unfoldable pub digits : ℕ → ℕ → List ℕ
digits zero n = []
digits (suc bound) n = elim (ltb n 10) [ true ↦ (48 + n) ∷ [] | false ↦ digits bound (n / 10) ++ ((48 + n % 10) ∷ []) ]

unfoldable pub decimal : ℕ → List ℕ
decimal n = digits (suc n) n

-- ---- reading

abbrev pub is_digit : ℕ → Bool
is_digit b = leb 48 b && ltb b 58

-- the number that the digits in front say after `acc`, and what is left
unfoldable pub read_digits : ℕ → List ℕ → ℕ × List ℕ
read_digits acc [] = (acc, [])
read_digits acc (b ∷ bs) = elim (is_digit b) [ true ↦ read_digits (acc * 10 + (b - 48)) bs | false ↦ (acc, b ∷ bs) ]

abbrev pub read_decimal : List ℕ → ℕ × List ℕ
read_decimal = read_digits 0

-- a text that does not go on with a digit
abbrev pub NoDigit : List ℕ → Type 0
NoDigit [] = Unit
NoDigit (b ∷ bs) = is_digit b ≡ false

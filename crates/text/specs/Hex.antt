-- A number in lower-case hexadecimal: its k last digits, zeros in front included. A byte of a frame has two, a digest
-- sixteen. Assumes nothing.
use Rattle.std.specs.Prelude.{ℕ, zero, suc, ◌+◌, ◌-◌, ◌*◌, ◌/◌, ◌%◌, List, [], ◌∷◌, ◌++◌, ltb}
use Rattle.logic.specs.Test.{when◌then◌else◌}

unfoldable pub hex_digit : ℕ → ℕ
hex_digit d = when ltb d 10 then 48 + d else 87 + d

unfoldable pub hex_digits : ℕ → ℕ → List ℕ
hex_digits zero n = []
hex_digits (suc k) n = hex_digits k (n / 16) ++ (hex_digit (n % 16) ∷ [])

abbrev pub hex16 : ℕ → List ℕ
hex16 = hex_digits 16

abbrev pub hex_byte : ℕ → List ℕ
hex_byte = hex_digits 2

-- two digits for each byte
unfoldable pub hex_bytes : List ℕ → List ℕ
hex_bytes [] = []
hex_bytes (b ∷ bs) = hex_byte b ++ hex_bytes bs

-- ---- reading

unfoldable pub hex_value : ℕ → ℕ
hex_value b = when ltb b 58 then b - 48 else b - 87

-- the number that the k digits in front say after `acc`, and what is left
unfoldable pub read_hex : ℕ → ℕ → List ℕ → ℕ × List ℕ
read_hex zero acc s = (acc, s)
read_hex (suc k) acc [] = (acc, [])
read_hex (suc k) acc (b ∷ s) = read_hex k (acc * 16 + hex_value b) s

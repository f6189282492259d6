-- Worked examples, computed from the definitions. Assumes nothing.
use mathlib.Core.Path.{◌≡◌, refl}
use mathlib.Core.List.{[], ◌∷◌}
use Rattle.logic.specs.Test.{when◌then◌else◌}
use Rattle.text.specs.Ascii.{ascii}
use Rattle.text.specs.Text as list
use Rattle.text.specs.Pages.{page, put_within}
use Rattle.text.specs.Decimal.{digits, decimal}
use Rattle.text.specs.Hex.{hex_digit, hex_digits, hex_bytes}

quoted : ascii "{\"a\":" ≡ 123 ∷ 34 ∷ 97 ∷ 34 ∷ 58 ∷ []
quoted = refl

decimals :
    decimal 0 ∷ decimal 9 ∷ decimal 10 ∷ decimal 1000 ∷ decimal 18446744073709551615 ∷ []
    ≡ ascii "0" ∷ ascii "9" ∷ ascii "10" ∷ ascii "1000" ∷ ascii "18446744073709551615" ∷ []
unfolding decimal digits
decimals = refl

hexes :
    hex_digits 16 48879 ∷ hex_digits 16 18446744073709551615 ∷ hex_digits 2 10 ∷ hex_bytes (0x41 ∷ 0 ∷ 0xf9 ∷ []) ∷ []
    ≡ ascii "000000000000beef" ∷ ascii "ffffffffffffffff" ∷ ascii "0a" ∷ ascii "4100f9" ∷ []
unfolding hex_digit hex_digits hex_bytes when◌then◌else◌
hexes = refl

-- behind a text of one byte, and the rest of the buffer keeps its values
behind : put_within 4 (page (1 ∷ 2 ∷ 3 ∷ 4 ∷ 5 ∷ []) 1) (7 ∷ 8 ∷ []) ≡ page (1 ∷ 7 ∷ 8 ∷ 4 ∷ 5 ∷ []) 3
unfolding put_within
behind = refl

-- what goes over the limit is dropped
dropped : put_within 2 (page (1 ∷ 2 ∷ 3 ∷ 4 ∷ 5 ∷ []) 1) (7 ∷ 8 ∷ []) ≡ page (1 ∷ 7 ∷ 3 ∷ 4 ∷ 5 ∷ []) 2
unfolding put_within
dropped = refl

-- the same of the text alone
behind_text : list.put_within 4 (1 ∷ []) (7 ∷ 8 ∷ []) ≡ 1 ∷ 7 ∷ 8 ∷ []
unfolding list.put_within
behind_text = refl

dropped_text : list.put_within 2 (1 ∷ []) (7 ∷ 8 ∷ []) ≡ 1 ∷ 7 ∷ []
unfolding list.put_within
dropped_text = refl

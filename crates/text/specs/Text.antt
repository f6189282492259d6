-- Document 01, "Pump and report": text is at most 2,048 bytes; 62 exactly when the lent buffer is shorter than the
-- text. Bytes past the text keep their values. Assumes nothing.
use Rattle.std.specs.Prelude.{ℕ, ◌+◌, ◌≡◌, List, [], ◌∷◌, ◌++◌, Result, Ok, Err, leb, length, take, drop}
use Rattle.logic.specs.Test.{when◌then◌else◌}
use Rattle.text.specs.declared.NoRoom.{NoRoom}

-- the longest text
abbrev pub text_limit : ℕ
text_limit = 2048

-- ---- writing

-- bytes more behind the text; what goes over the limit is dropped
unfoldable pub put_within : (limit : ℕ) → (text more : List ℕ) → List ℕ
put_within limit text more = take limit (text ++ more)

abbrev pub put : (text more : List ℕ) → List ℕ
put = put_within text_limit

-- ---- a text of many pieces

-- the pieces, one after the other
unfoldable pub join : List (List ℕ) → List ℕ
join [] = []
join (p ∷ ps) = p ++ join ps

-- each of them written in turn, which is what a chain of calls does
abbrev pub puts : List ℕ → List (List ℕ) → List ℕ
puts text [] = text
puts text (piece ∷ pieces) = puts (put text piece) pieces

-- how many bytes they have
abbrev pub total : List (List ℕ) → ℕ
total [] = 0
total (p ∷ ps) = length p + total ps

-- ---- a lent buffer

-- no room exactly where the buffer is shorter than the text
unfoldable pub copy_answer : (text out : List ℕ) → Result ℕ NoRoom
copy_answer text out = when leb (length text) (length out) then Ok (length text) else Err (record {})

-- the text at the front, and the bytes past it as they were; without room, all of them
unfoldable pub copy_into : (text out : List ℕ) → List ℕ
copy_into text out = when leb (length text) (length out) then text ++ drop (length text) out else out

-- what is answered, and what the buffer holds after
pub record Copies (text out : List ℕ) (answer : Result ℕ NoRoom) (after : List ℕ) : Type 0 where
  pub answered : answer ≡ copy_answer text out
  pub lent : after ≡ copy_into text out

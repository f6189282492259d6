-- A text at the front of a buffer, and what a write does to every byte there. Assumes nothing.
use Rattle.std.specs.Prelude.{ℕ, List, [], ◌∷◌, ◌++◌, length, take, drop}
use Rattle.text.specs.Text.{text_limit}

-- a buffer, and how many of its bytes are the text
pub record Page : Type 0 where
  pub bytes : List ℕ
  pub size : ℕ

abbrev pub page : (bytes : List ℕ) (size : ℕ) → Page
page bytes size = record { bytes = bytes; size = size }

-- a text at the front of a buffer; the bytes past it keep their values
abbrev pub written : (text before : List ℕ) → Page
written text before = page (text ++ drop (length text) before) (length text)

-- bytes more behind the text; what goes over the limit is dropped
unfoldable pub put_within : (limit : ℕ) → Page → List ℕ → Page
put_within limit p more = written (take limit (take p.size p.bytes ++ more)) p.bytes

abbrev pub put : Page → List ℕ → Page
put = put_within text_limit

-- each piece written in turn
abbrev pub puts : Page → List (List ℕ) → Page
puts p [] = p
puts p (piece ∷ pieces) = puts (put p piece) pieces

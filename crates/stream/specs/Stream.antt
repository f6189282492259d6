-- Between reading and writing, which are beyond a contract: the bytes come in pieces, and what each piece comes to is
-- what the definition of a script's lines (runner/specs/Script.antt) makes of it. Assumes nothing.
use Rattle.std.specs.Prelude.{ℕ, ◌≤◌, ◌<◌, ◌≡◌, List, [], ◌∷◌, ◌++◌, length, take}
use Rattle.session.specs.Session.{fresh}
use Rattle.session.specs.declared.Session.{Session}
use Rattle.runner.specs.declared.Form.{Form}
use Rattle.runner.specs.Runner.{no_params, end_lines}
use Rattle.runner.specs.Script.{Reading, reading}

-- a script that is being read, of its parts
abbrev pub reading_of : Session → (begun said : List ℕ) → Reading
reading_of s begun said = record { session = s; begun = begun; said = said }

-- bytes at the front of a piece are used, some where there are some, and the script is read on by just these
pub record Feeds (form : Form) (before : Reading) (piece : List ℕ) (used : ℕ) (after : Reading) : Type 0 where
  pub within : used ≤ length piece
  pub onward : 0 < length piece → 0 < used
  pub reads : reading form before (take used piece) ≡ after

-- the whole piece is read: the session that stands after it, and the record that has begun
pub record Reads (form : Form) (before : Reading) (piece : List ℕ) (after : Session) (begun : List ℕ) : Type 0 where
  pub next : (reading form before piece).session ≡ after
  pub rest : (reading form before piece).begun ≡ begun

-- what is handed to be written while a script comes in pieces: of each piece its lines, and at the end `cut` where a
-- record has begun
unfoldable pub handed_from : Form → Session → (begun : List ℕ) → List (List ℕ) → List ℕ
handed_from form s begun [] = end_lines s (length begun) form
handed_from form s begun (p ∷ ps) =
    let r = reading form (reading_of s begun []) p in
    r.said ++ handed_from form r.session r.begun ps

unfoldable pub handed : Form → List (List ℕ) → List ℕ
handed form pieces = handed_from form (fresh no_params) [] pieces

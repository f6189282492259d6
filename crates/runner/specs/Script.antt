-- Document 01, "The script runner `circle`": the lines printed for a script, as a definition over its bytes. A record
-- is run as soon as its last byte is there, so it does not matter in how many pieces the bytes come. Assumes nothing.
use Rattle.std.specs.Prelude.{ℕ, List, [], ◌∷◌, ◌++◌, Option, None, Some, length}
use Rattle.session.specs.Session.{fresh}
use Rattle.session.specs.declared.Session.{Session}
use Rattle.script.specs.Records.{record_size}
use Rattle.runner.specs.declared.Form.{Form}
use Rattle.runner.specs.Runner.{no_params, run_record, record_lines, end_lines}

-- a script that is being read: the session that stands, the bytes of the record that has begun, and the lines that were
-- said
pub record Reading : Type 0 where
  pub session : Session
  pub begun : List ℕ
  pub said : List ℕ

-- with these bytes in hand, by the size of the record that they are: a whole record is run, and one that is not whole
-- has begun
unfoldable pub hold_by : Form → Session → (bytes said : List ℕ) → Option ℕ → Reading
hold_by form s bytes said None = record { session = s; begun = bytes; said = said }
hold_by form s bytes said (Some size) =
    record { session = run_record s bytes; begun = []; said = said ++ record_lines s bytes form }

unfoldable pub hold : Form → Session → (bytes said : List ℕ) → Reading
hold form s bytes said = hold_by form s bytes said (record_size bytes)

-- one byte more
unfoldable pub take_in : Form → Reading → ℕ → Reading
take_in form r b = hold form r.session (r.begun ++ (b ∷ [])) r.said

unfoldable pub reading : Form → Reading → List ℕ → Reading
reading form r [] = r
reading form r (b ∷ bs) = reading form (take_in form r b) bs

-- nothing has begun and nothing was said
unfoldable pub from : Session → Reading
from s = record { session = s; begun = []; said = [] }

-- what a script prints in all: the lines of its records, and `cut` where the last is not whole
unfoldable pub closing : Form → Reading → List ℕ
closing form r = r.said ++ end_lines r.session (length r.begun) form

unfoldable pub script_lines : Form → List ℕ → List ℕ
script_lines form script = closing form (reading form (from (fresh no_params)) script)

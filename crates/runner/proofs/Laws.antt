-- Laws of reading a script: in how many pieces its bytes come does not matter, and a record that is not whole waits.
-- What a record's promise comes to, and what the search proves the functions by. Assumes nothing.
use Prim.Native.Nat.{ℕ, suc, ◌<◌, ◌≤◌}
use mathlib.Core.Path.{◌≡◌, refl, sym, ◌∙◌}
use mathlib.Core.List.{List, [], ◌∷◌, ◌++◌, append_assoc, append-nil}
use native.Mathlib.Omega.{arith}
use lib.ListN.{length, take, length-append}
use Rattle.std.specs.Prelude.{None}
use Rattle.text.specs.Text.{text_limit, put}
use Rattle.text.proofs.Writing.{put_room}
use Rattle.lines.specs.Lines.{Says}
use Rattle.session.specs.Host.{opened}
use Rattle.session.specs.declared.Session.{Session}
use Rattle.script.specs.Records.{record_size}
use Rattle.runner.specs.declared.Form.{Form}
use Rattle.runner.specs.Runner.{no_params, run_open, open_line_of, next_of, line_of, run_asked, asked_line, traced_line}
use Rattle.runner.specs.Runner.{shown_line, Prints}
use Rattle.runner.specs.Script.{Reading, hold_by, hold, take_in, reading}

-- what a call comes to and prints, as one name: under it the search proves most of the crate
unfoldable pub runs : Unit {0}
unfolding opened no_params run_open open_line_of next_of line_of run_asked asked_line traced_line shown_line
runs = tt

pub reading-append : (form : Form) (r : Reading) (xs ys : List ℕ)
    → reading form r (xs ++ ys) ≡ reading form (reading form r xs) ys
unfolding reading
reading-append form r [] ys = refl
reading-append form r (x ∷ xs) ys = reading-append form (take_in form r x) xs ys

-- bytes that complete no record only add to the one that has begun
pub waits : (form : Form) (s : Session) (said p xs : List ℕ)
    → ((k : ℕ) → k < length xs → record_size (p ++ take (suc k) xs) ≡ None)
    → reading form (record { session = s; begun = p; said = said }) xs
    ≡ record { session = s; begun = p ++ xs; said = said }
unfolding reading take_in hold hold_by
waits form s said p [] h = rw append-nil
waits form s said p (x ∷ xs) h =
    let none : record_size (p ++ (x ∷ [])) ≡ None = h 0 (omega arith) in
    rw (
      none,
      waits form s said (p ++ (x ∷ [])) xs (λ k l. rw append_assoc (h (suc k) (omega arith))),
      append_assoc,
    )

-- a line, and what its form shows behind it
pub shown_behind : {line first second : List ℕ} (shown : List ℕ) → Says line first → second ≡ put first shown
    → length shown ≤ 400 → (second ≡ line ++ shown) × (length (line ++ shown) ≤ text_limit)
shown_behind {line} shown says behind short =
    (behind ∙ rw says.said (put_room line shown (omega (arith, says.fits))), rw length-append (omega (arith, says.fits)))

-- the promise of a record fixes the session and the text: two answers that meet it are equal
pub prints_one : {s a b : Session} {lines x y : List ℕ} → Prints s lines a x → Prints s lines b y → (a ≡ b) × (x ≡ y)
prints_one p q = (p.next ∙ sym q.next, p.wrote ∙ sym q.wrote)

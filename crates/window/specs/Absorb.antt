-- Document 01, "The window": for each frame in order: below pending, skip silently; 64 or more above pending, note 27;
-- held and equal, raise `frames_repeated`; held and different, note 28; else write. Only the last note counts. Assumes
-- nothing.
use Rattle.std.specs.Prelude.{ℕ, zero, suc, ◌*◌, ◌-◌, Bool, true, false, ◌&&◌, List, [], ◌∷◌, eqb, leb, ltb, length, take, drop, Option, None, Some}
use Rattle.logic.specs.Test.{when◌then◌else◌}
use Rattle.logic.specs.Saturating.{sum, raised}
use Rattle.peer.specs.Cells.{window}
use Rattle.wire.specs.declared.InputsBody.{InputsBody}
use Rattle.window.specs.Window.{is_held, frame_of, write_frame}
use Rattle.window.specs.declared.Window.{Window}
use Rattle.window.specs.declared.Note.{Note}
use Rattle.window.specs.declared.Note.TheVariants.{OutOfWindow, Contradiction}
use Rattle.window.specs.declared.Taken.{Taken}

-- whether two lists hold the same numbers
unfoldable pub same_bytes : List ℕ → List ℕ → Bool
same_bytes [] [] = true
same_bytes [] (y ∷ ys) = false
same_bytes (x ∷ xs) [] = false
same_bytes (x ∷ xs) (y ∷ ys) = eqb x y && same_bytes xs ys

-- a message's frames so far: the window, the counter of repeats, the last note, and whether a frame was written
pub record Absorbed : Type 0 where
  pub window : Window
  pub repeated : ℕ
  pub note : Option Note
  pub wrote : Bool

abbrev pub absorbed : Window → Taken → Absorbed
absorbed w t = record { window = w; repeated = t.repeated; note = t.note; wrote = t.wrote }

-- ---- what a frame can do

abbrev pub noted : Absorbed → Note → Absorbed
noted a note = record { window = a.window; repeated = a.repeated; note = Some note; wrote = a.wrote }

abbrev pub repeats : Absorbed → Absorbed
repeats a = record { window = a.window; repeated = raised a.repeated; note = a.note; wrote = a.wrote }

abbrev pub stores : Absorbed → ℕ → ℕ → List ℕ → Absorbed
stores a seat tick bytes =
    record { window = write_frame a.window seat tick bytes; repeated = a.repeated; note = a.note; wrote = true }

-- ---- one frame, and a message's frames

unfoldable pub absorb_one : Absorbed → (pending seat tick : ℕ) → List ℕ → Absorbed
absorb_one a pending seat tick bytes =
    when ltb tick pending then a
    else when leb window (tick - pending) then noted a (OutOfWindow tick pending)
    else when is_held a.window seat tick
    then (when same_bytes (frame_of a.window seat tick (length bytes)) bytes
    then repeats a else noted a (Contradiction seat tick))
    else stores a seat tick bytes

-- frame i of a run, n bytes wide
unfoldable pub frame_at : List ℕ → ℕ → ℕ → List ℕ
frame_at run n i = take n (drop (i * n) run)

abbrev pub untouched : Window → ℕ → Absorbed
untouched w repeated = record { window = w; repeated = repeated; note = None; wrote = false }

-- the first k frames, in order: frame i belongs to the first tick plus i. A message whose form is good has no tick
-- above 2^64-1; the sum stops there so that every message has an answer
unfoldable pub absorb_first : Absorbed → (pending seat first n : ℕ) → List ℕ → ℕ → Absorbed
absorb_first a pending seat first n run zero = a
absorb_first a pending seat first n run (suc i) =
    absorb_one (absorb_first a pending seat first n run i) pending seat (sum first i) (frame_at run n i)

-- all of them, from no note and nothing written
unfoldable pub absorb_inputs : Window → (repeated pending seat : ℕ) → InputsBody → List ℕ → Absorbed
absorb_inputs w repeated pending seat inputs run =
    absorb_first (untouched w repeated) pending seat inputs.first inputs.width run inputs.count

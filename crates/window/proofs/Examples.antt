-- Examples at both sides of the window's limits, and of the slips that document 01 excludes, computed from the
-- definitions. P2 to P6 stand here as one message does them; the cases themselves are proved in the crate `table`.
-- Assumes nothing.
use Prim.Native.Nat.{ℕ}
use Rattle.std.specs.Prelude.{Option, None, Some}
use mathlib.Core.Path.{◌≡◌, refl}
use mathlib.Core.List.{List, [], ◌∷◌}
use mathlib.Core.Bool.{Bool, true, false}
use Rattle.logic.specs.Test.{when◌then◌else◌}
use Rattle.logic.specs.Saturating.{sum, raised}
use Rattle.peer.specs.Seats.{has, set_of, adding}
use Rattle.window.specs.Window.{fresh_window, held_by, is_held, frame_of, written, write_frame}
use Rattle.window.specs.Absorb.{Absorbed, same_bytes, absorb_one, frame_at, absorb_first, absorb_inputs}
use Rattle.window.specs.declared.Window.{Window}
use Rattle.window.specs.declared.Note.{Note}
use Rattle.window.specs.declared.Note.TheVariants.{OutOfWindow, Contradiction}

-- what a message's frames compute with, as one name to unfold
absorbing : Unit {0}
unfolding fresh_window has set_of adding held_by is_held frame_of written write_frame sum raised same_bytes
    absorb_one frame_at absorb_first absorb_inputs when◌then◌else◌
absorbing = tt

-- what a message did: its last note, whether a frame was written, and the repeats
record Shown : Type 0 where
  note : Option Note
  wrote : Bool
  repeated : ℕ

did : Option Note → Bool → ℕ → Shown
did note wrote repeated = record { note = note; wrote = wrote; repeated = repeated }

shown : Absorbed → Shown
shown a = did a.note a.wrote a.repeated

-- seat 1 sends `count` frames of a byte each from this tick
send : Window → (pending first count : ℕ) → List ℕ → Absorbed
send w pending first count run = absorb_inputs w 0 pending 1 (record { first = first; count = count; width = 1 }) run

after : (first : ℕ) → List ℕ → Window
after first run = (send fresh_window 0 first 1 run).window

-- seat 1 has pressed for ticks 62 and 63
two : Window
two = (send fresh_window 0 62 2 (66 ∷ 67 ∷ [])).window

cases :
    -- P2, P3: a new frame at tick 63, at tick 64
    shown (send fresh_window 0 63 1 (66 ∷ []))
    ∷ shown (send fresh_window 0 64 1 (66 ∷ []))
    -- P4: the same frame twice
    ∷ shown (send (after 63 (66 ∷ [])) 0 63 1 (66 ∷ []))
    -- P5: tick 0 contradicted, tick 1 new; and alone
    ∷ shown (send (after 0 (66 ∷ [])) 0 0 2 (67 ∷ 68 ∷ []))
    ∷ shown (send (after 0 (66 ∷ [])) 0 0 1 (67 ∷ []))
    -- P6: pending 3, frame for 2
    ∷ shown (send fresh_window 3 2 1 (66 ∷ []))
    -- a held frame for tick 0 is none for tick 64
    ∷ shown (send (after 0 (66 ∷ [])) 64 64 1 (67 ∷ []))
    ∷ []
    ≡ did None true 0
    ∷ did (Some (OutOfWindow 64 0)) false 0
    ∷ did None false 1
    ∷ did (Some (Contradiction 1 0)) true 0
    ∷ did (Some (Contradiction 1 0)) false 0
    ∷ did None false 0
    ∷ did None true 0
    ∷ []
unfolding absorbing shown did send after
cases = refl

-- Only the last note counts. A message's ticks rise, so what is out of the window comes after all else: the notes can
-- be 28 and 28, 28 and 27, 27 and 27, and never 27 and then 28.
last_notes :
    -- ticks 62 and 63 contradicted
    shown (send two 0 62 2 (68 ∷ 69 ∷ []))
    -- tick 62 contradicted, 63 repeated, 64 out of the window
    ∷ shown (send two 0 62 3 (68 ∷ 67 ∷ 70 ∷ []))
    -- ticks 64 and 65 out of the window
    ∷ shown (send two 0 64 2 (70 ∷ 71 ∷ []))
    -- tick 62 contradicted, 63 written, 64 out of the window
    ∷ shown (send (after 62 (66 ∷ [])) 0 62 3 (68 ∷ 67 ∷ 70 ∷ []))
    -- tick 63 written, 64 out of the window
    ∷ shown (send fresh_window 0 63 2 (66 ∷ 67 ∷ []))
    ∷ []
    ≡ did (Some (Contradiction 1 63)) false 0
    ∷ did (Some (OutOfWindow 64 0)) false 1
    ∷ did (Some (OutOfWindow 65 0)) false 0
    ∷ did (Some (OutOfWindow 64 0)) true 0
    ∷ did (Some (OutOfWindow 64 0)) true 0
    ∷ []
unfolding absorbing shown did send after two
last_notes = refl

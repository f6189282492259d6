-- The rules for a frame as one law by cases, the law for a run of frames, and what follows from them: counters never
-- fall, and a frame that is held within the window stays as it is, so that the first write wins. Assumes nothing.
use Prim.Native.Nat.{ℕ, zero, suc, ◌+◌, ◌-◌, ◌<◌, ◌≤◌}
use mathlib.Core.Path.{◌≡◌, refl, ap, sym, ◌∙◌}
use mathlib.Core.Logic.{◌≢◌}
use mathlib.Core.List.{List}
use mathlib.Core.Bool.{true, false, true≢false}
use native.Mathlib.Omega.{arith}
use lib.ListN.{length, length-take}
use borrow.Author.Tests.{ltb-true, ltb-false, leb-true, leb-false}
use Rattle.logic.specs.Saturating.{most, sum, raised}
use Rattle.logic.proofs.Cases.{by_test, case_eq}
use Rattle.peer.specs.Seats.{seats}
use Rattle.peer.specs.Cells.{window, slot_of}
use Rattle.params.specs.Params.{max_width}
use Rattle.window.specs.Window.{is_held, frame_of, written}
use Rattle.window.specs.Absorb.{Absorbed, same_bytes, noted, repeats, stores, absorb_one}
use Rattle.window.specs.Absorb.{frame_at, untouched, absorb_first, absorb_inputs}
use Rattle.wire.specs.declared.InputsBody.{InputsBody}
use Rattle.window.specs.declared.Window.{Window}
use Rattle.window.specs.declared.Note.TheVariants.{OutOfWindow, Contradiction}
use Rattle.window.proofs.Same.{same_eq, same_refl}
use Rattle.window.proofs.Laws.{Sized, Holds, write_is, written_sized}
use Rattle.window.proofs.Laws.{is_held_seat, is_held_cell, frame_other}

-- one premise for each rule
pub absorb_cases : (P : Absorbed → Type 0) (a : Absorbed) (pending seat tick : ℕ) (bytes : List ℕ)
    → (tick < pending → P a)
    → (pending + window ≤ tick → P (noted a (OutOfWindow tick pending)))
    → (is_held a.window seat tick ≡ true → frame_of a.window seat tick (length bytes) ≡ bytes → P (repeats a))
    → (is_held a.window seat tick ≡ true → frame_of a.window seat tick (length bytes) ≢ bytes
    → P (noted a (Contradiction seat tick)))
    → (pending ≤ tick → tick < pending + window → is_held a.window seat tick ≡ false → P (stores a seat tick bytes))
    → P (absorb_one a pending seat tick bytes)
unfolding absorb_one
absorb_cases P a pending seat tick bytes below above equal other new =
    let f = frame_of a.window seat tick (length bytes) in
    by_test P (λ e. below (ltb-true tick pending e)) (λ e1.
    by_test P (λ e2. let h1 = ltb-false tick pending e1 in let h2 = leb-true window (tick - pending) e2 in
    above (omega arith)) (λ e2.
    by_test P
    (λ e3. by_test P (λ e4. equal e3 (same_eq f bytes e4))
    (λ e4. other e3 (λ q. true≢false (sym (same_refl bytes) ∙ ap (λ (l : List ℕ). same_bytes l bytes) (sym q) ∙ e4))))
    (λ e3. let h1 = ltb-false tick pending e1 in let h2 = leb-false window (tick - pending) e2 in
    new h1 (omega arith) e3)))

-- what holds at the start and is kept by each frame holds after each number of frames
pub frames_keep : (P : Absorbed → Type 0) (a : Absorbed) (pending seat first n : ℕ) (run : List ℕ) → P a
    → ((x : Absorbed) (i : ℕ) → P x → P (absorb_one x pending seat (sum first i) (frame_at run n i)))
    → (k : ℕ) → P (absorb_first a pending seat first n run k)
unfolding absorb_first
frames_keep P a pending seat first n run start step zero = start
frames_keep P a pending seat first n run start step (suc k) =
    step (absorb_first a pending seat first n run k) k (frames_keep P a pending seat first n run start step k)

-- a frame of a run is no longer than it should be
pub frame_short : (run : List ℕ) (n i : ℕ) → n ≤ max_width → length (frame_at run n i) ≤ max_width
unfolding frame_at
frame_short run n i h = rw length-take (omega arith)

-- ---- a message that wrote nothing left the window as it was, and repeats never fall

record Fair (w : Window) (repeated : ℕ) (a : Absorbed) : Type 0 where
  same : a.wrote ≡ false → a.window ≡ w
  rises : repeated ≤ a.repeated
  fits : a.repeated ≤ most

raised_fair : (n : ℕ) → n ≤ most → (n ≤ raised n) × (raised n ≤ most)
unfolding raised
raised_fair n h = (omega arith, omega arith)

one_fair : (w : Window) (repeated : ℕ) (a : Absorbed) (pending seat tick : ℕ) (bytes : List ℕ) → Fair w repeated a
    → Fair w repeated (absorb_one a pending seat tick bytes)
one_fair w repeated a pending seat tick bytes h =
    let more = raised_fair a.repeated h.fits in
    absorb_cases (Fair w repeated) a pending seat tick bytes
    (λ _. h) (λ _. record { same = h.same; rises = h.rises; fits = h.fits })
    (λ _ _. record { same = h.same; rises = omega arith; fits = more.1 })
    (λ _ _. record { same = h.same; rises = h.rises; fits = h.fits })
    (λ _ _ _. record { same = λ e. absurd (true≢false e); rises = h.rises; fits = h.fits })

module _ (w : Window) (repeated pending seat : ℕ) (inputs : InputsBody) (run : List ℕ) (fits : repeated ≤ most) where
  fair : Fair w repeated (absorb_inputs w repeated pending seat inputs run)
  unfolding absorb_inputs
  fair =
      frames_keep (Fair w repeated) (untouched w repeated) pending seat inputs.first inputs.width run
      record { same = λ _. refl; rises = omega arith; fits = fits }
      (λ x i h. one_fair w repeated x pending seat (sum inputs.first i) (frame_at run inputs.width i) h)
      inputs.count

  pub unwritten : (absorb_inputs w repeated pending seat inputs run).wrote ≡ false
      → (absorb_inputs w repeated pending seat inputs run).window ≡ w
  unwritten e = fair.same e

  pub repeats_rise : repeated ≤ (absorb_inputs w repeated pending seat inputs run).repeated
  repeats_rise = fair.rises

  pub repeats_fit : (absorb_inputs w repeated pending seat inputs run).repeated ≤ most
  repeats_fit = fair.fits

-- ---- the first write wins

-- in a window of 64 ticks, ticks of one cell are one tick
one_cell : (p t u : ℕ) → p ≤ t → t < p + window → p ≤ u → u < p + window → slot_of u ≡ slot_of t → u ≡ t
one_cell p t u a b c d e = omega arith

-- a frame that is held at or above pending, in a window as its type has it
pub record Kept (pending n r u : ℕ) (frame : List ℕ) (w : Window) : Type 0 where
  pub sized : Sized w
  pub holds : Holds w n r u frame

record KeptIn (pending n r u : ℕ) (frame : List ℕ) (a : Absorbed) : Type 0 where
  kept : Kept pending n r u frame a.window

module _ (pending n r u : ℕ) (frame : List ℕ) (low : r < seats) (narrow : n ≤ max_width) (least : pending ≤ u)
    (greatest : u < pending + window) where
  written_keeps : (w : Window) (seat tick : ℕ) (bytes : List ℕ) → seat < seats → length bytes ≤ max_width
      → pending ≤ tick → tick < pending + window
      → is_held w seat tick ≡ false → Kept pending n r u frame w → Kept pending n r u frame (written w seat tick bytes)
  written_keeps w seat tick bytes s short a b e k =
      case_eq u tick
      (λ q.
      let other : r ≢ seat =
      λ j. true≢false (sym k.holds.held ∙ ap (λ (x : ℕ). is_held w x u) j ∙ ap (is_held w seat) q ∙ e) in
      record {
        sized = written_sized w seat tick bytes k.sized s short;
        holds = record {
          held = rw (q, is_held_seat w seat tick bytes k.sized s short r low other, ← q) k.holds.held;
          frame = frame_other w seat tick bytes k.sized s short r u n (omega arith) narrow ∙ k.holds.frame;
        };
      })
      (λ q.
      let other : slot_of u ≢ slot_of tick = λ j. q (one_cell pending tick u a b least greatest j) in
      record {
        sized = written_sized w seat tick bytes k.sized s short;
        holds = record {
          held = is_held_cell w seat tick bytes k.sized s short r u other ∙ k.holds.held;
          frame = frame_other w seat tick bytes k.sized s short r u n (omega arith) narrow ∙ k.holds.frame;
        };
      })

  one_keeps : (a : Absorbed) (seat tick : ℕ) (bytes : List ℕ) → seat < seats → length bytes ≤ max_width
      → KeptIn pending n r u frame a → KeptIn pending n r u frame (absorb_one a pending seat tick bytes)
  one_keeps a seat tick bytes s short k =
      absorb_cases (KeptIn pending n r u frame) a pending seat tick bytes
      (λ _. k) (λ _. record { kept = k.kept }) (λ _ _. record { kept = k.kept }) (λ _ _. record { kept = k.kept })
      (λ x y e. record {
        kept = rw (write_is a.window seat tick bytes k.kept.sized s short)
            (written_keeps a.window seat tick bytes s short x y e k.kept);
      })

  -- no frame of a message changes it
  pub first_write_wins : (a : Absorbed) (seat first : ℕ) (run : List ℕ) (k : ℕ) → seat < seats
      → Kept pending n r u frame a.window
      → Kept pending n r u frame (absorb_first a pending seat first n run k).window
  first_write_wins a seat first run k s h =
      (frames_keep (KeptIn pending n r u frame) a pending seat first n run (record { kept = h })
      (λ x i q. one_keeps x seat (sum first i) (frame_at run n i) s (frame_short run n i narrow) q) k).kept

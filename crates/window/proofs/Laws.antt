-- What later layers use of the window: a frame that was just written is held and is those bytes, and what is held
-- elsewhere, or for another seat, is as it was. Assumes nothing.
use Prim.Native.Nat.{ℕ, ◌+◌, ◌*◌, ◌<◌, ◌≤◌}
use mathlib.Core.Path.{◌≡◌, refl, sym, ◌∙◌}
use mathlib.Core.Logic.{◌≢◌, ◌⊎◌, inl, inr}
use mathlib.Core.List.{List}
use mathlib.Core.Bool.{true, false, or-true, or-false, true≢false}
use native.Mathlib.Omega.{arith}
use native.Mathlib.Decide.{dec_lt}
use lib.ListN.{length, get_or, replicate, length-set, length-replicate}
use lib.ListN.{length-take, length-drop, get_or-replicate, get_or-eq_default}
use lib.Seq.{length-paste, get_or-set_same, get_or-set_other, take-length}
use borrow.Author.Tests.{eq-eqb, ne_eqb, lt-ltb, le-leb}
use Rattle.logic.specs.Test.{when◌then◌else◌}
use Rattle.logic.specs.Saturating.{most}
use Rattle.logic.proofs.Cases.{case_eq, case_lt, if_same}
use Rattle.peer.specs.Seats.{seats, has, adding}
use Rattle.peer.specs.Cells.{window, slot_of}
use Rattle.peer.proofs.Laws.{has-adding, has-zero}
use Rattle.params.specs.Params.{max_width}
use Rattle.window.specs.Window.{ring_bytes, fresh_window, held_by, is_held, frame_of, written, write_frame, frame_start}
use Rattle.window.specs.declared.Window.{Window}
use Rattle.window.proofs.Parts.{read_pasted, read_before, read_after}

-- what the types of the fields say: every record that a call is given or leaves is so
pub record Sized (w : Window) : Type 0 where
  pub ring : length w.ring ≡ ring_bytes
  pub ticks : length w.ticks ≡ window
  pub present : length w.present ≡ window

pub fresh_sized : Sized fresh_window
unfolding fresh_window
fresh_sized = record {
  ring = length-replicate {A = ℕ} ring_bytes 0;
  ticks = length-replicate {A = ℕ} window most;
  present = length-replicate {A = ℕ} window 0;
}

get_or-replicate_same : (n i a : ℕ) → get_or (replicate n a) i a ≡ a
get_or-replicate_same n i a =
    case_lt i n (λ l. get_or-replicate n i a a l) (λ l. get_or-eq_default (replicate n a) a (rw length-replicate l))

-- two frames of sixteen bytes are one, or lie apart
apart : (x y : ℕ) → x ≢ y → (y * 16 + 16 ≤ x * 16) ⊎ (x * 16 + 16 ≤ y * 16)
apart x y ne = elim (dec_lt x y) [ yes h ↦ inr (omega arith) | no g ↦ inl (omega arith) ]

module _ (w : Window) (seat tick : ℕ) (bytes : List ℕ) (ok : Sized w) (low : seat < seats)
    (short : length bytes ≤ max_width) where
  room : frame_start seat tick + length bytes ≤ length w.ring
  room = rw ok.ring (omega arith)

  pub write_is : write_frame w seat tick bytes ≡ written w seat tick bytes
  unfolding write_frame when◌then◌else◌
  write_is = rw (lt-ltb seat seats low, le-leb (length bytes) max_width short)

  pub written_sized : Sized (written w seat tick bytes)
  unfolding written
  written_sized = record {
    ring = length-paste w.ring (frame_start seat tick) bytes (length bytes) room (omega arith) ∙ ok.ring;
    ticks = length-set w.ticks (slot_of tick) tick ∙ ok.ticks;
    present = length-set w.present (slot_of tick) (adding seats (held_by w tick) seat) ∙ ok.present;
  }

  -- the seats held for the tick of the frame, for a tick of another cell, and for another tick of the same cell
  held_same : held_by (written w seat tick bytes) tick ≡ adding seats (held_by w tick) seat
  unfolding held_by written when◌then◌else◌
  held_same =
      rw (get_or-set_same w.ticks (slot_of tick) tick 0 (rw ok.ticks (omega arith)), eq-eqb tick tick refl)
      (get_or-set_same w.present (slot_of tick) _ 0 (rw ok.present (omega arith)))

  pub held_cell : (u : ℕ) → slot_of u ≢ slot_of tick → held_by (written w seat tick bytes) u ≡ held_by w u
  unfolding held_by written
  held_cell u ne =
      rw (
        get_or-set_other w.ticks (slot_of tick) (slot_of u) tick 0 ne,
        get_or-set_other w.present (slot_of tick) (slot_of u) _ 0 ne,
      )

  pub held_over : (u : ℕ) → slot_of u ≡ slot_of tick → u ≢ tick → held_by (written w seat tick bytes) u ≡ 0
  unfolding held_by written when◌then◌else◌
  held_over u e ne =
      rw (
        e,
        get_or-set_same w.ticks (slot_of tick) tick 0 (rw ok.ticks (omega arith)),
        ne_eqb tick u (λ p. ne (sym p)),
      )

  pub is_held_same : is_held (written w seat tick bytes) seat tick ≡ true
  unfolding is_held
  is_held_same =
      rw (held_same, has-adding seats (held_by w tick) seat seat, eq-eqb seat seat refl)
      (or-true (has (held_by w tick) seat))

  pub is_held_seat : (r : ℕ) → r < seats → r ≢ seat → is_held (written w seat tick bytes) r tick ≡ is_held w r tick
  unfolding is_held
  is_held_seat r l ne =
      rw (held_same, has-adding seats (held_by w tick) seat r, ne_eqb r seat ne) (or-false (has (held_by w tick) r))

  pub is_held_cell : (r u : ℕ) → slot_of u ≢ slot_of tick → is_held (written w seat tick bytes) r u ≡ is_held w r u
  unfolding is_held
  is_held_cell r u ne = rw (held_cell u ne)

  pub is_held_over : (r u : ℕ) → slot_of u ≡ slot_of tick → u ≢ tick → is_held (written w seat tick bytes) r u ≡ false
  unfolding is_held
  is_held_over r u e ne = rw (held_over u e ne) (has-zero r)

  -- the bytes of the frame, and of every frame of another seat or cell
  pub frame_same : frame_of (written w seat tick bytes) seat tick (length bytes) ≡ bytes
  unfolding frame_of written
  frame_same = read_pasted w.ring (frame_start seat tick) bytes (length bytes) room (omega arith) ∙ take-length bytes

  pub frame_other : (r u n : ℕ) → r * window + slot_of u ≢ seat * window + slot_of tick → n ≤ max_width
      → frame_of (written w seat tick bytes) r u n ≡ frame_of w r u n
  unfolding frame_of written
  frame_other r u n ne h = elim (apart (seat * window + slot_of tick) (r * window + slot_of u) (λ p. ne (sym p))) [
    | inl p ↦ read_before w.ring (frame_start seat tick) bytes (length bytes) room (omega arith)
        (frame_start r u) n (omega arith)
    | inr p ↦ read_after w.ring (frame_start seat tick) bytes (length bytes) room (omega arith)
        (frame_start r u) n (omega arith)
  ]

-- ---- what is held, said without lists and masks

-- the frame of a seat and a tick is held, and its n bytes are these
pub record Holds (w : Window) (n seat tick : ℕ) (bytes : List ℕ) : Type 0 where
  pub held : is_held w seat tick ≡ true
  pub frame : frame_of w seat tick n ≡ bytes

pub fresh_holds : (n seat tick : ℕ) (bytes : List ℕ) → Holds fresh_window n seat tick bytes → ⊥
unfolding fresh_window is_held held_by
fresh_holds n seat tick bytes h =
    true≢false (sym h.held ∙ rw (get_or-replicate_same window (slot_of tick) 0, if_same) (has-zero seat))

-- where a frame that a written window holds comes from: it is the one just written, or was held before
pub data Wrote (w : Window) (n seat tick : ℕ) (bytes : List ℕ) (r u : ℕ) (frame : List ℕ) : Type 0 where
  fresh : r ≡ seat → u ≡ tick → frame ≡ bytes → Wrote w n seat tick bytes r u frame
  older : Holds w n r u frame → Wrote w n seat tick bytes r u frame

-- the cell of another seat or of another cell's tick is another
cells_apart : (r u seat tick : ℕ) → (r ≡ seat → slot_of u ≢ slot_of tick)
    → r * window + slot_of u ≢ seat * window + slot_of tick
cells_apart r u seat tick n e = n (omega arith) (omega arith)

pub wrote : (w : Window) (n seat tick : ℕ) (bytes : List ℕ) (r u : ℕ) (frame : List ℕ)
    → Sized w → seat < seats → length bytes ≡ n → n ≤ max_width → r < seats
    → Holds (written w seat tick bytes) n r u frame → Wrote w n seat tick bytes r u frame
wrote w n seat tick bytes r u frame ok low len short l h =
    let fits : length bytes ≤ max_width = omega arith in
    case_eq (slot_of u) (slot_of tick)
    (λ s.
    case_eq u tick
    (λ q.
    case_eq r seat (λ p. fresh p q (cc (frame_same w seat tick bytes ok low fits)))
    (λ d.
    older record {
      held = cc (is_held_seat w seat tick bytes ok low fits r l d);
      frame =
          cc (frame_other w seat tick bytes ok low fits r u n (cells_apart r u seat tick (λ p. absurd (d p))) short);
    }))
    (λ d. absurd (true≢false (sym h.held ∙ is_held_over w seat tick bytes ok low fits r u s d))))
    (λ d.
    older record {
      held = cc (is_held_cell w seat tick bytes ok low fits r u d);
      frame = cc (frame_other w seat tick bytes ok low fits r u n (cells_apart r u seat tick (λ _. d)) short);
    })

pub frame_length : (w : Window) (seat tick n : ℕ) → Sized w → seat < seats → n ≤ max_width
    → length (frame_of w seat tick n) ≡ n
unfolding frame_of
frame_length w seat tick n ok low short = rw (length-take, length-drop, ok.ring) (omega arith)

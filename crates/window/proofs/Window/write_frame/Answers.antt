-- `window::Window::write_frame` meets its contract. Assumes nothing.
use Prim.Native.Nat.{ℕ}
use mathlib.Core.Logic.{inl, inr}
use mathlib.Core.Path.{◌≡◌, refl}
use mathlib.Core.List.{List}
use native.Mathlib.Nat.{add-sub_cancel_left}
use lib.ListN.{length, set}
use lib.Seq.{paste}
use borrow.Author.Tests.{lt-ltb, le-ltb, le-leb, lt-leb}
use Rattle.std.proofs.lemmas.Slice.{put_mid-paste}
use Rattle.logic.specs.Test.{when◌then◌else◌}
use Rattle.peer.specs.Seats.{seats, adding}
use Rattle.peer.specs.Cells.{slot_of}
use Rattle.window.specs.Window.{write_frame, written, frame_start, held_by}
use Rattle.window.specs.declared.Window.{Window}
use Rattle.window.proofs.Window.write_frame.Goals as goal

pasted_all : (w : Window) (seat tick at cell held : ℕ) (bytes ring : List ℕ)
    → at ≡ frame_start seat tick → cell ≡ slot_of tick → held ≡ adding seats (held_by w tick) seat
    → ring ≡ paste w.ring at bytes (length bytes)
    → record { ring = ring; ticks = set w.ticks cell tick; present = set w.present cell held }
    ≡ written w seat tick bytes
unfolding written
pasted_all w seat tick at cell held bytes ring p q r s = rw (s, p, q, r)

pub returns-then-seat-ge-SEATS : goal.returns-then-seat-ge-SEATS
unfolding write_frame when◌then◌else◌
returns-then-seat-ge-SEATS c = elim c.then-seat-ge-SEATS.either [
  | inl h ↦ rw (le-ltb _ _ h)
  | inr h ↦ rw (lt-ltb _ _ h.0, lt-leb _ _ h.1)
]

pub returns : goal.returns
unfolding write_frame when◌then◌else◌
returns c =
    let a = c.args in
    rw (lt-ltb _ _ c.if-seat-ge-SEATS.false, le-leb _ _ c.if-n-gt-FRAME.false)
    (pasted_all a.self.now a.seat a.tick _ _ _ a.input.now _ c.frame_start-at.ensures c.slot-cell.ensures
    (rw (← c.held_by-set.ensures, ← c.with.ensures) c.bits.ensures)
    (put_mid-paste _ _ _ _ _ _ c.copy_from_slice.ensures.after (rw add-sub_cancel_left) refl))

-- Document 01, "The window": the ring is 8,192 input bytes, all zero at the start, with one tick number (2^64-1 at
-- first) and one seat set (empty) per cell. Writing a new tick to a cell empties its seat set first. The bytes that
-- stand for a seat and tick are the bytes already held if there are any, else the message's. Assumes nothing.
use Rattle.std.specs.Prelude.{ℕ, ◌+◌, ◌*◌, Bool, List, eqb, leb, ltb, length, get_or, set, take, drop, replicate}
use Rattle.std.proofs.Math.Seq.{paste}
use Rattle.logic.specs.Test.{when◌then◌else◌}
use Rattle.logic.specs.Saturating.{most}
use Rattle.peer.specs.Seats.{seats, has, adding}
use Rattle.peer.specs.Cells.{window, slot_of}
use Rattle.params.specs.Params.{max_width}
use Rattle.window.specs.declared.Window.{Window}

abbrev pub ring_bytes : ℕ
ring_bytes = seats * window * max_width

-- the cells of a seat stand in a row, and sixteen bytes are kept in each
abbrev pub frame_start : ℕ → ℕ → ℕ
frame_start seat tick = (seat * window + slot_of tick) * max_width

-- a window of its three lists
abbrev pub window_of : (ring ticks present : List ℕ) → Window
window_of ring ticks present = record { ring = ring; ticks = ticks; present = present }

unfoldable pub fresh_window : Window
fresh_window = window_of (replicate ring_bytes 0) (replicate window most) (replicate window 0)

-- the seats whose frame for the tick is held: those of its cell, if that stands at this very tick
unfoldable pub held_by : Window → ℕ → ℕ
held_by w tick = when eqb (get_or w.ticks (slot_of tick) 0) tick then get_or w.present (slot_of tick) 0 else 0

unfoldable pub is_held : Window → ℕ → ℕ → Bool
is_held w seat tick = has (held_by w tick) seat

-- the n bytes in the cell of a seat and a tick
unfoldable pub frame_of : Window → ℕ → ℕ → ℕ → List ℕ
frame_of w seat tick n = take n (drop (frame_start seat tick) w.ring)

-- the bytes that stand: those at `at` of the ring if they are held, else the message's
unfoldable pub standing : Bool → List ℕ → ℕ → List ℕ → List ℕ
standing held ring at bytes = when held then take (length bytes) (drop at ring) else bytes

-- a frame in its cell, which then stands at the frame's tick and holds the seats held for that tick, and this one
unfoldable pub written : Window → ℕ → ℕ → List ℕ → Window
written w seat tick bytes = record {
  ring = paste w.ring (frame_start seat tick) bytes (length bytes);
  ticks = set w.ticks (slot_of tick) tick;
  present = set w.present (slot_of tick) (adding seats (held_by w tick) seat);
}

-- a seat above 7 has no cell, and a cell takes sixteen bytes
unfoldable pub write_frame : Window → ℕ → ℕ → List ℕ → Window
write_frame w seat tick bytes =
    when ltb seat seats
    then (when leb (length bytes) max_width then written w seat tick bytes else w)
    else w

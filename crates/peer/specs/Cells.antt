-- Document 01: a tick's cell in the window is `tick & 63`, and among the fingerprints `tick & 15`: the remainder by 64
-- and by 16. Assumes nothing.
use Rattle.std.specs.Prelude.{ℕ, ◌%◌}

-- how many ticks the window holds
abbrev pub window : ℕ
window = 64

-- how many fingerprints are kept of each seat
abbrev pub history : ℕ
history = 16

abbrev pub slot_of : ℕ → ℕ
slot_of tick = tick % window

abbrev pub digest_slot_of : ℕ → ℕ
digest_slot_of tick = tick % history

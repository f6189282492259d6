-- Document 01's ranges, as `2..8`: both ends are in.
-- Assumes nothing.
use Rattle.std.specs.Prelude.{ℕ, Bool, ◌||◌, ltb}

-- n is not in low..high
unfoldable pub outside : (low high n : ℕ) → Bool
outside low high n = ltb n low || ltb high n

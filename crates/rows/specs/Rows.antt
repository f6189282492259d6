-- Document 01, "Step and commit": a step hashes its tick, then frames by rising seat. Its frames go out as eight rows
-- of sixteen bytes, by value, zero beyond width and roster. Assumes nothing.
use Rattle.std.specs.Prelude.{ℕ, zero, suc, List, [], ◌∷◌, ◌++◌, ltb, get_or, take}
use Rattle.logic.specs.Test.{when◌then◌else◌}
use Rattle.logic.specs.Tabulate.{tabulate}
use Rattle.hash.specs.Fnv.{fnv, le_bytes}
use Rattle.peer.specs.Seats.{seats}
use Rattle.params.specs.Params.{max_width}
use Rattle.window.specs.Window.{frame_of}
use Rattle.window.specs.declared.Window.{Window}

-- sixteen bytes: those of a frame, then zeros
unfoldable pub padded : List ℕ → List ℕ
padded bytes = tabulate max_width (λ i. get_or bytes i 0)

-- a row for each seat: the frame of a seat of the roster, and no bytes for the others
unfoldable pub rows_of : Window → (tick count width : ℕ) → List (List ℕ)
rows_of w tick count width = tabulate seats (λ k. padded (when ltb k count then frame_of w k tick width else []))

-- the frames of the first count seats, by rising seat
unfoldable pub frames_of : Window → (tick width count : ℕ) → List ℕ
frames_of w tick width zero = []
frames_of w tick width (suc k) = frames_of w tick width k ++ frame_of w k tick width

-- the first width bytes of each of the first count rows, row by row
unfoldable pub heads : (count width : ℕ) → List (List ℕ) → List ℕ
heads zero width rows = []
heads (suc count) width [] = []
heads (suc count) width (row ∷ rows) = take width row ++ heads count width rows

-- the tick, then the frames by rising seat
unfoldable pub step_digest : (digest tick count width : ℕ) → List (List ℕ) → ℕ
step_digest digest tick count width rows = fnv digest (le_bytes 8 tick ++ heads count width rows)

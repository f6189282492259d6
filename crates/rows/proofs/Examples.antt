-- Worked examples, computed from the definitions: the step of document 01's case R, and one of three seats whose cells
-- are in use again. Assumes nothing.
use Prim.Native.Nat.{ℕ, ◌-◌}
use mathlib.Core.Path.{◌≡◌, refl}
use mathlib.Core.List.{List, [], ◌∷◌}
use lib.ListN.{replicate}
use Rattle.logic.specs.Test.{when◌then◌else◌}
use Rattle.logic.specs.Tabulate.{tabulate}
use Rattle.hash.specs.Fnv.{start, fnv, le_bytes}
use Rattle.peer.specs.Seats.{seats, has, set_of, adding}
use Rattle.window.specs.Window.{fresh_window, held_by, is_held, frame_of, written, write_frame}
use Rattle.window.specs.declared.Window.{Window}
use Rattle.rows.specs.Rows.{padded, rows_of, heads, step_digest}

-- tick 0: 41 hex of seat 0 and 42 hex of seat 1
case_r : Window
case_r = write_frame (write_frame fresh_window 0 0 (0x41 ∷ [])) 1 0 (0x42 ∷ [])

-- tick 64, in the cell of tick 0: two bytes of each of three seats
later : Window
later = write_frame (write_frame (write_frame case_r 0 64 (1 ∷ 2 ∷ [])) 1 64 (3 ∷ 4 ∷ [])) 2 64 (5 ∷ 6 ∷ [])

zeros : ℕ → List ℕ
zeros n = replicate n 0

-- what a step's rows compute with, as one name to unfold
laying : Unit {0}
unfolding tabulate has set_of adding fresh_window held_by is_held frame_of written write_frame padded rows_of when◌then◌else◌
laying = tt

rows_of_r : rows_of case_r 0 2 1 ≡ (0x41 ∷ zeros 15) ∷ (0x42 ∷ zeros 15) ∷ replicate (seats - 2) (zeros 16)
unfolding laying case_r zeros
rows_of_r = refl

rows_later : rows_of later 64 3 2
    ≡ (1 ∷ 2 ∷ zeros 14) ∷ (3 ∷ 4 ∷ zeros 14) ∷ (5 ∷ 6 ∷ zeros 14) ∷ replicate (seats - 3) (zeros 16)
unfolding laying case_r later zeros
rows_later = refl

-- a step hashes its tick, then the frames by rising seat, and the next step goes on from there
hashed_of_r : step_digest start 0 2 1 (rows_of case_r 0 2 1)
    ≡ fnv start (0 ∷ 0 ∷ 0 ∷ 0 ∷ 0 ∷ 0 ∷ 0 ∷ 0 ∷ 0x41 ∷ 0x42 ∷ [])
unfolding fnv le_bytes heads step_digest
hashed_of_r = rw rows_of_r

digests :
    step_digest start 0 2 1 ((0x41 ∷ zeros 15) ∷ (0x42 ∷ zeros 15) ∷ replicate (seats - 2) (zeros 16))
    ∷ step_digest 7563201615092177098 64 3 2
    ((1 ∷ 2 ∷ zeros 14) ∷ (3 ∷ 4 ∷ zeros 14) ∷ (5 ∷ 6 ∷ zeros 14) ∷ replicate (seats - 3) (zeros 16))
    ∷ []
    ≡ 7563201615092177098 ∷ 6100455216326036373 ∷ []
unfolding fnv le_bytes heads step_digest zeros
digests = refl

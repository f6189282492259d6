-- Document 02, K1: how many ticks from pending upward have every seat's frame, 0 to 64, an outstanding step included.
-- The meaning looks at all 64 ticks and takes the full run at the front. A tick above 2^64-1 is a gap. 20 comes first.
-- Assumes nothing.
use Rattle.std.specs.Prelude.{ℕ, suc, ◌+◌, Bool, true, false, ◌&&◌, List, [], ◌∷◌, Result, Ok, Err, leb}
use Rattle.logic.specs.Test.{when◌then◌else◌}
use Rattle.logic.specs.Numbered.{done_no, result_no}
use Rattle.logic.specs.Saturating.{most}
use Rattle.logic.specs.Tabulate.{tabulate}
use Rattle.peer.specs.Cells.{window}
use Rattle.params.specs.Params.{bad_state, bad_state_no}
use Rattle.params.specs.declared.BadState.{BadState}
use Rattle.window.specs.Window.{held_by}
use Rattle.window.specs.declared.Window.{Window}
use Rattle.session.specs.Session.{every_seat}
use Rattle.session.specs.declared.Head.{Head}
use Rattle.session.specs.declared.Session.{Session}

-- whether every seat of the roster has its frame for a tick, as `advance` asks it; a tick above 2^64-1 is a gap
unfoldable pub is_ready : Head → Window → ℕ → Bool
is_ready h w tick = leb tick most && every_seat h (held_by w tick)

-- so for all 64: pending, pending + 1 .. pending + 63
unfoldable pub readiness : Head → Window → List Bool
readiness h w = tabulate window (λ k. is_ready h w (h.play.pending + k))

-- how many stand at the front before the first no
unfoldable pub front_run : List Bool → ℕ
front_run [] = 0
front_run (true ∷ rest) = suc (front_run rest)
front_run (false ∷ rest) = 0

-- the full run at the front of the 64
unfoldable pub ahead : Head → Window → ℕ
ahead h w = front_run (readiness h w)

-- 20 first, for a record whose parameters fail
unfoldable pub ready_ticks : Session → Result ℕ BadState
ready_ticks s = when bad_state s.head.params then Err (record {}) else Ok (ahead s.head s.window)

abbrev pub ready_no : Result ℕ BadState → ℕ
ready_no = result_no done_no bad_state_no

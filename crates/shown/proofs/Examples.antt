-- How many ticks are ready, computed from the definition at both sides of each limit; 64 is reached. Assumes nothing.
use Prim.Native.Nat.{ℕ, ◌-◌}
use mathlib.Core.Path.{◌≡◌, refl}
use mathlib.Core.List.{List}
use lib.ListN.{replicate, set}
use Rattle.std.specs.Prelude.{Result, Ok, Err}
use Rattle.logic.specs.Saturating.{most}
use Rattle.logic.specs.Tabulate.{tabulate}
use Rattle.params.specs.declared.SessionParams.{SessionParams}
use Rattle.params.specs.declared.BadState.{BadState}
use Rattle.window.specs.Window.{window_of, fresh_window}
use Rattle.session.specs.declared.Head.{Head}
use Rattle.session.specs.Session.{session_of, with_play, fresh_head}
use Rattle.session.proofs.Computing.{hosting}
use Rattle.fingerprint.specs.Cells.{no_prints}
use Rattle.shown.specs.Ahead.{is_ready, readiness, front_run, ahead, ready_ticks}

-- seat 0 of so many
abbrev seated : ℕ → SessionParams
seated n =
    record { count = n; local = 0; width = 1; delay = 0; period = 2; seed = 0; content = 0; rules = 0; session = 9 }

-- with this tick pending
abbrev at : ℕ → Head → Head
at pending h = with_play h (record {
  pending = pending;
  next_local = h.play.next_local;
  digest = h.play.digest;
  step = h.play.step;
  stalled = h.play.stalled;
})

-- what a circle of n answers at a tick whose cells stand at these ticks and hold these seats
abbrev ready : (n pending : ℕ) → (ticks present : List ℕ) → Result ℕ BadState
ready n pending ticks present =
    ready_ticks (session_of (at pending (fresh_head (seated n))) (window_of fresh_window.ring ticks present) no_prints)

-- cell k stands at tick k, and every cell holds these seats
abbrev early : List ℕ
early = tabulate 64 (λ k. k)

abbrev every : ℕ → List ℕ
every seats = replicate 64 seats

-- all 64, and with a gap at the last, at the 41st of two, at the first
gaps : (ready 2 0 early (every 3) ≡ Ok 64) × (ready 2 0 early (set (every 3) 63 1) ≡ Ok 63)
    × (ready 2 0 early (set (set (every 3) 50 1) 40 2) ≡ Ok 40) × (ready 2 0 early (set (every 3) 0 1) ≡ Ok 0)
unfolding hosting is_ready readiness front_run ahead ready_ticks
gaps = (refl, refl, refl, refl)

-- seats that the circle does not have count for nothing, and a cell counts for the tick at which it stands
strangers : (ready 2 0 early (every 255) ≡ Ok 64) × (ready 2 0 early (every 254) ≡ Ok 0)
    × (ready 2 0 (set early 5 69) (every 3) ≡ Ok 5) × (ready 2 5 early (every 3) ≡ Ok 59)
unfolding hosting is_ready readiness front_run ahead ready_ticks
strangers = (refl, refl, refl, refl)

-- the ticks end at 2^64-1, where a sum that starts anew would find the ticks from 0 on
ends : (ready 2 most (set early 63 most) (every 3) ≡ Ok 1)
    × (ready 2 (most - 1) (set (set early 62 (most - 1)) 63 most) (every 3) ≡ Ok 2)
unfolding hosting is_ready readiness front_run ahead ready_ticks
ends = (refl, refl)

-- 20 before all else
refused : (ready 8 0 early (every 255) ≡ Ok 64) × (ready 9 0 early (every 255) ≡ Err (record {}))
unfolding hosting is_ready readiness front_run ahead ready_ticks
refused = (refl, refl)

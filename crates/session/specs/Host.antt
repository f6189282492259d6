-- Document 01, what the host calls: open, submit and leave. 20 comes first, and then, in submit, a standing outcome.
-- Assumes nothing.
use Rattle.std.specs.Prelude.{ℕ, ◌-◌, not, List, Option, None, Some, Result, Ok, Err, eqb, leb, length, replicate}
use Rattle.logic.specs.Test.{when◌then◌else◌}
use Rattle.logic.specs.Saturating.{raised}
use Rattle.peer.specs.Cells.{window}
use Rattle.params.specs.Params.{zero_params, validity, bad_state}
use Rattle.params.specs.declared.SessionParams.{SessionParams}
use Rattle.params.specs.declared.ParamsError.{ParamsError}
use Rattle.window.specs.Window.{ring_bytes, window_of, write_frame}
use Rattle.fingerprint.specs.Cells.{no_prints}
use Rattle.session.specs.declared.Outcome.{Outcome}
use Rattle.session.specs.declared.Outcome.TheVariants.{LeftLocally}
use Rattle.session.specs.declared.Emit.TheVariants.{Bye}
use Rattle.session.specs.declared.Head.{Head}
use Rattle.session.specs.declared.Session.{Session}
use Rattle.session.specs.declared.SubmitError.TheVariants as Submit'
use Rattle.session.specs.declared.Answered.{Answered}
use Rattle.session.specs.Session.{session_of, with_head, HeadAnswered, head_with, session_with, fresh_head, fresh, with_play}
use Rattle.session.specs.Session.{with_outcome, with_pass, started, last_committed}
use Rattle.session.specs.Numbers.{Submit, submit_no, Leave}

-- a refused open hands back the fresh record over the given parameters, on which every call answers 20
unfoldable pub opened : SessionParams → Answered (Result (Unit {0}) ParamsError)
opened p = session_with (fresh p) (validity p)

-- room for a session before its first open: parameters that no open takes, so that every call answers 20, and nothing
-- held
unfoldable pub unopened : Session
unopened =
    session_of (fresh_head zero_params)
    (window_of (replicate ring_bytes 0) (replicate window 0) (replicate window 0)) no_prints

-- ---- submit: the head says whether the press is taken, and the window takes it

-- the next local tick rises by one
unfoldable pub pressed : Head → Head
pressed h = with_play h (record {
  pending = h.play.pending;
  next_local = raised h.play.next_local;
  digest = h.play.digest;
  step = h.play.step;
  stalled = h.play.stalled;
})

-- 41 length; 42 next local tick minus pending at least 64
unfoldable pub submit_open : Head → ℕ → HeadAnswered Submit
submit_open h n =
    when not (eqb n h.params.width) then head_with h (Err (Submit'.WrongWidth n h.params.width))
    else when leb window (h.play.next_local - h.play.pending)
    then head_with h (Err (Submit'.WindowFull h.play.next_local h.play.pending))
    else head_with (started (pressed h)) (Ok h.play.next_local)

unfoldable pub submit_by : Head → ℕ → Option Outcome → HeadAnswered Submit
submit_by h n (Some o) = head_with h (Err (Submit'.Ended o))
submit_by h n None = submit_open h n

-- a press of n bytes
unfoldable pub submit_head : Head → ℕ → HeadAnswered Submit
submit_head h n =
    when bad_state h.params then head_with h (Err Submit'.BadState) else submit_by h n h.outcome

-- a press that is taken is written at the next local tick, over any bytes held there
unfoldable pub submit : Session → List ℕ → Answered Submit
submit s input =
    let r = submit_head s.head (length input) in
    let written = write_frame s.window s.head.params.local s.head.play.next_local input in
    session_with
    (session_of r.head (when eqb (submit_no r.answer) 0 then written else s.window) s.prints) r.answer

-- ---- leave

-- leaving reports pending minus one, or 0 at pending 0, and restarts the pump at Bye; a leave after any outcome gives
-- the standing one and changes nothing
unfoldable pub leave_by : Head → Option Outcome → HeadAnswered Leave
leave_by h (Some o) = head_with h (Ok o)
leave_by h None =
    head_with
    (with_pass (with_outcome h (Some (LeftLocally (last_committed h)))) (record { kind = Bye; place = 0 }))
    (Ok (LeftLocally (last_committed h)))

unfoldable pub leave_head : Head → HeadAnswered Leave
leave_head h = when bad_state h.params then head_with h (Err (record {})) else leave_by h h.outcome

unfoldable pub leave : Session → Answered Leave
leave s = session_with (with_head s (leave_head s.head).head) (leave_head s.head).answer

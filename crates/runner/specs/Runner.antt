-- Document 01, "The script runner `circle`": what a record does to the session that stands, and the line it prints.
-- Assumes nothing.
use Rattle.std.specs.Prelude.{ℕ, ◌≤◌, ◌≡◌, Bool, true, false, List, [], ◌++◌, eqb, length}
use Rattle.text.specs.Text.{text_limit}
use Rattle.logic.specs.Test.{when◌then◌else◌}
use Rattle.params.specs.Params.{zero_params, validity, bad_state}
use Rattle.params.specs.declared.SessionParams.{SessionParams}
use Rattle.session.specs.Session.{fresh, is_playing}
use Rattle.session.specs.Host.{submit, leave}
use Rattle.session.specs.Step.{advance, commit}
use Rattle.session.specs.declared.Head.{Head}
use Rattle.session.specs.declared.Session.{Session}
use Rattle.shown.specs.Wants.{wants_local}
use Rattle.shown.specs.Ahead.{ready_ticks}
use Rattle.deliver.specs.Deliver.{deliver}
use Rattle.pump.specs.Pump.{pump}
use Rattle.desync.specs.Asked.{desync_report}
use Rattle.script.specs.declared.Call.{Call}
use Rattle.script.specs.declared.Call.TheVariants.{Submit, Deliver, Advance, Commit, Leave, Pump, Report}
use Rattle.script.specs.declared.Asked.{Asked}
use Rattle.script.specs.declared.Asked.TheVariants.{Bad, Open, Of}
use Rattle.script.specs.Records.{asked, rest_of}
use Rattle.lines.specs.Lines.{Says, open_line, submit_line, deliver_line, advance_line}
use Rattle.lines.specs.Lines.{commit_line, leave_line, report_line, ready_line, bad_line, none_line, cut_line}
use Rattle.trace_text.specs.Trace.{send_lines, state_line}
use Rattle.runner.specs.declared.Form.{Form}
use Rattle.runner.specs.declared.Form.TheVariants.{Plain, Trace, Ready}

-- the session that stands is this one, and the text is the line
pub record Runs (session : Session) (line : List ℕ) (after : Session) (text : List ℕ) : Type 0 where
  pub next : after ≡ session
  pub says : Says line text

-- before a good open stands what no open takes
unfoldable pub no_params : SessionParams
no_params = zero_params

-- a later good open replaces the session, a refused one leaves it
unfoldable pub run_open : Session → SessionParams → Session
run_open s p = when bad_state p then s else fresh p

unfoldable pub open_line_of : SessionParams → List ℕ
open_line_of p = open_line (validity p)

-- what each call leaves
unfoldable pub next_of : Session → Call → List ℕ → Session
next_of s Submit bytes = (submit s bytes).session
next_of s (Deliver source message) bytes = (deliver s source message bytes).session
next_of s Advance bytes = (advance s).session
next_of s (Commit tick digest) bytes = (commit s tick digest).session
next_of s Leave bytes = (leave s).session
next_of s Pump bytes = (pump s).session
next_of s Report bytes = s

-- and prints
unfoldable pub line_of : Session → Call → List ℕ → Bool → List ℕ
line_of s Submit bytes traced = submit_line (submit s bytes).answer
line_of s (Deliver source message) bytes traced = deliver_line (deliver s source message bytes).answer
line_of s Advance bytes traced = advance_line (advance s).answer (advance s).frames
line_of s (Commit tick digest) bytes traced = commit_line (commit s tick digest).answer
line_of s Leave bytes traced = leave_line (leave s).answer
line_of s Pump bytes traced = send_lines (pump s).answer (pump s).run traced
line_of s Report bytes traced = report_line (desync_report s)

-- "A script kind from 1 to 12 with its right length is run; another prints `bad`. Before a good open, other well-formed
-- records print `none`."
unfoldable pub run_asked : Session → Asked → List ℕ → Session
run_asked s Bad bytes = s
run_asked s (Open p) bytes = run_open s p
run_asked s (Of call) bytes = when bad_state s.head.params then s else next_of s call bytes

unfoldable pub asked_line : Session → Asked → List ℕ → Bool → List ℕ
asked_line s Bad bytes traced = bad_line
asked_line s (Open p) bytes traced = open_line_of p
asked_line s (Of call) bytes traced = when bad_state s.head.params then none_line else line_of s call bytes traced

-- ---- one record

-- what the trace form shows of a session, once there is one
unfoldable pub traced_line : Head → List ℕ
traced_line h =
    when bad_state h.params then []
    else
    state_line h.stats h.play.pending h.play.next_local (is_playing h) (wants_local h) h.play.digest
    h.outcome

-- behind a record's line stands nothing, what the trace form shows of the session, or how many of its ticks are ready
unfoldable pub shown_line : Session → Form → List ℕ
shown_line s Plain = []
shown_line s Trace = traced_line s.head
shown_line s Ready = ready_line (ready_ticks s)

-- the messages that go out are shown whole in the trace form alone
abbrev pub is_trace : Form → Bool
is_trace Plain = false
is_trace Trace = true
is_trace Ready = false

unfoldable pub run_record : Session → List ℕ → Session
run_record s r = run_asked s (asked r) (rest_of r)

unfoldable pub record_lines : Session → List ℕ → Form → List ℕ
record_lines s r form = asked_line s (asked r) (rest_of r) (is_trace form) ++ shown_line (run_record s r) form

-- the session that stands is this one, and the text is the lines, whole
pub record Prints (session : Session) (lines : List ℕ) (after : Session) (text : List ℕ) : Type 0 where
  pub next : after ≡ session
  pub wrote : text ≡ lines
  pub fits : length lines ≤ text_limit

-- "A record cut by the end, of any kind, prints `cut`": one of which some bytes are there, and not all
unfoldable pub end_lines : Session → ℕ → Form → List ℕ
end_lines s begun form = when eqb begun 0 then [] else cut_line ++ shown_line s form

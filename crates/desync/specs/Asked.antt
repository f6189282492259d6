-- Document 01, numbers 20, 61 and 62: 20 before anything else; 61 no desync; "62 exactly when the lent buffer is
-- shorter than the text. Bytes past the text keep their values." Refusals change nothing. Assumes nothing.
use Rattle.std.specs.Prelude.{ℕ, ◌≡◌, List, Option, None, Some, Result, Ok, Err}
use Rattle.logic.specs.Test.{when◌then◌else◌}
use Rattle.params.specs.Params.{bad_state}
use Rattle.session.specs.declared.Outcome.{Outcome}
use Rattle.session.specs.declared.Outcome.TheVariants as Outcome'
use Rattle.session.specs.declared.Session.{Session}
use Rattle.text.specs.Text.{copy_answer, copy_into}
use Rattle.text.specs.declared.NoRoom.{NoRoom}
use Rattle.desync.specs.declared.DesyncReport.{DesyncReport}
use Rattle.desync.specs.declared.ReportError.{ReportError}
use Rattle.desync.specs.declared.ReportError.TheVariants as Report'
use Rattle.desync.specs.declared.WriteError.{WriteError}
use Rattle.desync.specs.declared.WriteError.TheVariants as Write'
use Rattle.desync.specs.Report.{report_at}
use Rattle.desync.specs.Json.{report_text}

-- ---- the report

-- of the tick at which the players parted, where the session is over because they did
unfoldable pub report_by : Session → Option Outcome → Result DesyncReport ReportError
report_by s None = Err Report'.NoDesync
report_by s (Some (Outcome'.Desynced tick)) = Ok (report_at s.head.params s.prints s.head.stats tick)
report_by s (Some (Outcome'.PeerLeft peer tick)) = Err Report'.NoDesync
report_by s (Some (Outcome'.LeftLocally tick)) = Err Report'.NoDesync

-- 20 first
unfoldable pub desync_report : Session → Result DesyncReport ReportError
desync_report s = when bad_state s.head.params then Err Report'.BadState else report_by s s.head.outcome

-- ---- its text in a lent buffer

abbrev pub unwritten : ReportError → WriteError
unwritten Report'.BadState = Write'.BadState
unwritten Report'.NoDesync = Write'.NoDesync

-- what a copy to the buffer came to: the count, or 62, exactly where the buffer is shorter than the text
abbrev pub written_of : Result ℕ NoRoom → Result ℕ WriteError
written_of (Ok n) = Ok n
written_of (Err full) = Err Write'.NoRoom

unfoldable pub write_answer : Result DesyncReport ReportError → (out : List ℕ) → Result ℕ WriteError
write_answer (Err why) out = Err (unwritten why)
write_answer (Ok report) out = written_of (copy_answer (report_text report) out)

-- the buffer after it: on 20 and 61 as it was, else as a copy of the text leaves it, which on 62 is as it was too
unfoldable pub write_into : Result DesyncReport ReportError → (out : List ℕ) → List ℕ
write_into (Err why) out = out
write_into (Ok report) out = copy_into (report_text report) out

-- what is answered, and what the buffer holds after
pub record WritesAs (found : Result DesyncReport ReportError) (out : List ℕ) (answer : Result ℕ WriteError)
    (after : List ℕ) : Type 0 where
  pub answered : answer ≡ write_answer found out
  pub lent : after ≡ write_into found out

abbrev pub Writes : Session → (out : List ℕ) → Result ℕ WriteError → (after : List ℕ) → Type 0
Writes s = WritesAs (desync_report s)

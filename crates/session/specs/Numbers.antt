-- Document 01, "Numbers given back": what each call answers, and the number of each answer.
-- Assumes nothing.
use Rattle.std.specs.Prelude.{ℕ, Result}
use Rattle.logic.specs.Numbered.{done_no, result_no}
use Rattle.params.specs.Params.{bad_state_no}
use Rattle.params.specs.declared.BadState.{BadState}
use Rattle.session.specs.declared.Outcome.{Outcome}
use Rattle.session.specs.declared.SubmitError.{SubmitError}
use Rattle.session.specs.declared.SubmitError.TheVariants as Submit'
use Rattle.session.specs.declared.Advance.{Advance}
use Rattle.session.specs.declared.Advance.TheVariants as Advance'
use Rattle.session.specs.declared.CommitError.{CommitError}
use Rattle.session.specs.declared.CommitError.TheVariants as Commit'

-- the tick that the press is for
abbrev pub Submit : Type 0
Submit = Result ℕ SubmitError

abbrev pub Commit : Type 0
Commit = Result (Unit {0}) CommitError

-- how the session ended
abbrev pub Leave : Type 0
Leave = Result Outcome BadState

-- ended, with the outcome
abbrev pub outcome_no : Outcome → ℕ
outcome_no o = 1

abbrev pub submit_error_no : SubmitError → ℕ
submit_error_no (Submit'.Ended o) = 1
submit_error_no Submit'.BadState = 20
submit_error_no (Submit'.WrongWidth saw agreed) = 41
submit_error_no (Submit'.WindowFull tick pending) = 42

abbrev pub submit_no : Submit → ℕ
submit_no = result_no done_no submit_error_no

abbrev pub leave_no : Leave → ℕ
leave_no = result_no outcome_no bad_state_no

abbrev pub commit_error_no : CommitError → ℕ
commit_error_no Commit'.BadState = 20
commit_error_no (Commit'.OutOfOrder saw expected) = 51
commit_error_no (Commit'.DigestMismatch tick owed) = 52

abbrev pub commit_no : Commit → ℕ
commit_no = result_no done_no commit_error_no

-- to wait or to stall is no refusal
abbrev pub advance_no : Advance → ℕ
advance_no (Advance'.Step step) = 0
advance_no Advance'.Waiting = 0
advance_no (Advance'.Stalled tick waiting pumps) = 0
advance_no (Advance'.Ended o) = 1
advance_no Advance'.BadState = 20

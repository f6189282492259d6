-- Document 01, "The script runner `circle`", "Lines": the line of each answer. 20 is no answer that a script gets, as
-- only a good open makes a session; its lines are the call's name and the number. Assumes nothing.
use Rattle.std.specs.Prelude.{ℕ, zero, suc, ◌+◌, ◌≤◌, ◌≡◌, Bool, true, false, List, [], ◌∷◌, ◌++◌, length, take}
use Rattle.std.specs.Prelude.{Result, Ok, Err}
use Rattle.text.specs.Ascii.{ascii}
use Rattle.text.specs.Text.{join}
use Rattle.text.specs.Decimal.{decimal}
use Rattle.text.specs.Hex.{hex_bytes}
use Rattle.params.specs.Params.{validity_no}
use Rattle.params.specs.declared.ParamsError.{ParamsError}
use Rattle.params.specs.declared.BadState.{BadState}
use Rattle.wire.specs.declared.Body.{Body}
use Rattle.wire.specs.declared.Body.TheVariants as Body'
use Rattle.session.specs.Numbers.{Submit, submit_no, Commit, commit_no, Leave}
use Rattle.session.specs.declared.Outcome.{Outcome}
use Rattle.session.specs.declared.Outcome.TheVariants.{Desynced, PeerLeft, LeftLocally}
use Rattle.session.specs.declared.Step.{Step}
use Rattle.session.specs.declared.Advance.{Advance}
use Rattle.session.specs.declared.Advance.TheVariants as Advance'
use Rattle.deliver.specs.Numbers.{delivery_no}
use Rattle.deliver.specs.declared.Delivery.{Delivery}
use Rattle.desync.specs.Numbers.{report_error_no}
use Rattle.desync.specs.Json.{report_most, report_text}
use Rattle.desync.specs.declared.ReportError.{ReportError}
use Rattle.desync.specs.declared.DesyncReport.{DesyncReport}
use Rattle.pump.specs.declared.Outbound.{Outbound}
use Rattle.pump.specs.declared.Outbound.TheVariants as Outbound'

-- no line is longer than a report's; beside it a text has room for what the trace form adds
abbrev pub line_limit : ℕ
line_limit = report_most + 1

-- the text is the line, whole
pub record Says (line text : List ℕ) : Type 0 where
  pub said : text ≡ line
  pub fits : length line ≤ line_limit

-- a name and a number
unfoldable pub numbered : List ℕ → ℕ → List ℕ
numbered name n = join (name ∷ decimal n ∷ ascii "\n" ∷ [])

unfoldable pub flag_text : Bool → List ℕ
flag_text true = ascii "1"
flag_text false = ascii "0"

-- `bad`, `none`, `cut`
unfoldable pub bad_line : List ℕ
bad_line = ascii "bad\n"

unfoldable pub none_line : List ℕ
none_line = ascii "none\n"

unfoldable pub cut_line : List ℕ
cut_line = ascii "cut\n"

-- `open N`
unfoldable pub open_line : Result (Unit {0}) ParamsError → List ℕ
open_line answer = numbered (ascii "open ") (validity_no answer)

-- `submit 0 TICK` or `submit N`
unfoldable pub accepted_text : Submit → List ℕ
accepted_text (Ok tick) = join (ascii " " ∷ decimal tick ∷ [])
accepted_text (Err why) = []

unfoldable pub submit_line : Submit → List ℕ
submit_line answer = join (ascii "submit " ∷ decimal (submit_no answer) ∷ accepted_text answer ∷ ascii "\n" ∷ [])

-- `deliver N`
unfoldable pub deliver_line : Delivery → List ℕ
deliver_line answer = numbered (ascii "deliver ") (delivery_no answer)

-- `ended WHY SEAT TICK`: 1 desynced, 2 peer left, 3 left locally; seat `-` for 1 and 3
unfoldable pub outcome_text : Outcome → List ℕ
outcome_text (Desynced tick) = join (ascii "1 - " ∷ decimal tick ∷ [])
outcome_text (PeerLeft peer tick) = join (ascii "2 " ∷ decimal peer ∷ ascii " " ∷ decimal tick ∷ [])
outcome_text (LeftLocally tick) = join (ascii "3 - " ∷ decimal tick ∷ [])

unfoldable pub ended_line : Outcome → List ℕ
ended_line o = join (ascii "ended " ∷ outcome_text o ∷ ascii "\n" ∷ [])

-- one lower-case hex field a seat: the first width bytes of each of the first count rows
unfoldable pub field_text : ℕ → List ℕ → List ℕ
field_text width row = join (ascii " " ∷ hex_bytes (take width row) ∷ [])

unfoldable pub field_texts : (count width : ℕ) → List (List ℕ) → List ℕ
field_texts zero width rows = []
field_texts (suc count) width [] = []
field_texts (suc count) width (row ∷ rows) = field_text width row ++ field_texts count width rows

-- `step TICK DUE` and the fields
unfoldable pub step_line : Step → List (List ℕ) → List ℕ
step_line step rows =
    join (ascii "step " ∷ decimal step.tick ∷ ascii " " ∷ flag_text step.due
    ∷ field_texts step.count step.width rows ∷ ascii "\n" ∷ [])

-- `stalled TICK SEATSET COUNT`, the set as its byte in decimal
unfoldable pub stalled_line : (tick waiting pumps : ℕ) → List ℕ
stalled_line tick waiting pumps =
    join (ascii "stalled " ∷ decimal tick ∷ ascii " " ∷ decimal waiting ∷ ascii " " ∷ decimal pumps ∷ ascii "\n" ∷ [])

unfoldable pub advance_line : Advance → List (List ℕ) → List ℕ
advance_line (Advance'.Step step) rows = step_line step rows
advance_line Advance'.Waiting rows = ascii "waiting\n"
advance_line (Advance'.Stalled tick waiting pumps) rows = stalled_line tick waiting pumps
advance_line (Advance'.Ended o) rows = ended_line o
advance_line Advance'.BadState rows = numbered (ascii "advance ") 20

-- `commit N`
unfoldable pub commit_line : Commit → List ℕ
commit_line answer = numbered (ascii "commit ") (commit_no answer)

-- leave prints `ended ..` too
unfoldable pub leave_line : Leave → List ℕ
leave_line (Ok o) = ended_line o
leave_line (Err bad) = numbered (ascii "leave ") 20

-- the JSON or `report N`
unfoldable pub report_line : Result DesyncReport ReportError → List ℕ
report_line (Ok report) = join (report_text report ∷ ascii "\n" ∷ [])
report_line (Err why) = numbered (ascii "report ") (report_error_no why)

-- `send PEER KIND TICK COUNT`: kind as in the script, for Inputs the first tick; 0 where the message has none
unfoldable pub body_text : Body → List ℕ
body_text (Body'.Hello b) = ascii "3 0 0"
body_text (Body'.Inputs b) = join (ascii "4 " ∷ decimal b.first ∷ ascii " " ∷ decimal b.count ∷ [])
body_text (Body'.Digest b) = join (ascii "5 " ∷ decimal b.tick ∷ ascii " 0" ∷ [])
body_text (Body'.Bye b) = join (ascii "6 " ∷ decimal b.tick ∷ ascii " 0" ∷ [])
body_text (Body'.Other kind) = ascii "7 0 0"

-- or `send 71`
unfoldable pub send_line : Outbound → List ℕ
send_line (Outbound'.Send peer message) =
    join (ascii "send " ∷ decimal peer ∷ ascii " " ∷ body_text message.body ∷ ascii "\n" ∷ [])
send_line Outbound'.Nothing = numbered (ascii "send ") 71
send_line Outbound'.BadState = numbered (ascii "send ") 20

-- K1: `ready N`, or `ready none` where there is no session to ask
unfoldable pub ready_line : Result ℕ BadState → List ℕ
ready_line (Ok n) = join (ascii "ready " ∷ decimal n ∷ ascii "\n" ∷ [])
ready_line (Err bad) = ascii "ready none\n"

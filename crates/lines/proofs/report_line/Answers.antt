-- `lines::report_line` meets its contract. Assumes nothing.
use Rattle.std.proofs.Common.{◌≤◌, [], ◌∷◌, length, ◌∙◌, arith}
use Rattle.text.specs.Ascii.{ascii}
use Rattle.text.specs.Text.{join}
use Rattle.text.proofs.Writing.{put_room, join-length}
use Rattle.desync.specs.Json.{report_text}
use Rattle.lines.specs.Lines.{line_limit, report_line}
use Rattle.lines.proofs.report_line.Goals as goal

pub returns-in-Ok : goal.returns-in-Ok
unfolding report_line join
returns-in-Ok c =
    let json = c.json.ensures in
    let written = rw json.writes at c.byte.ensures in
    let line : length (join (report_text c.in-Ok.report ∷ ascii "\n" ∷ [])) ≤ line_limit =
    rw join-length (omega (arith, json.within_report_most)) in
    let both = put_room (report_text c.in-Ok.report) (ascii "\n") (omega (arith, json.within_report_most)) in
    rw c.in-Ok.is (record { said = written ∙ both; fits = line })

pub returns-in-Err : goal.returns-in-Err
unfolding report_line
returns-in-Err c = rw (c.in-Err.is, ← c.number.ensures) c.numbered.ensures

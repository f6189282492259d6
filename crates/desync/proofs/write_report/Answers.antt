-- `desync::write_report` meets its contract: its text fits, so what is written is the report. Assumes nothing.
use mathlib.Core.Path.{◌≡◌, refl, sym, ap, ◌∙◌}
use Rattle.std.proofs.Common.{rules, Ok}
use Rattle.desync.specs.Json.{report_text}
use Rattle.desync.specs.Asked.{desync_report, written_of, write_answer, write_into}
use Rattle.desync.proofs.write_report.Goals as goal
use Rattle.desync.proofs.write_report.Goals.{After-copy_out}

found : (c : After-copy_out) → desync_report c.args.s.now ≡ Ok c.in_ok-report.report
found c = sym c.desync_report.ensures ∙ c.in_ok-report.was

said : (c : After-copy_out) → c.json.new.out ≡ report_text c.in_ok-report.report
said c = c.json.ensures.writes

pub returns : goal.returns
unfolding write_answer write_into
returns c =
    let c' = (goal.at.returns c).After-copy_out in
    let copied = rw (said c') at c.copy_out.ensures in
    rw (found c')
    (record { answered = ap written_of (sym (c.in_ok-copy_out.was) ∙ copied.answered); lent = copied.lent })

pub returns-in_err-copy_out : goal.returns-in_err-copy_out
unfolding write_answer write_into
returns-in_err-copy_out c =
    let c' = (goal.at.returns-in_err-copy_out c).After-copy_out in
    let copied = rw (said c') at c.copy_out.ensures in
    rw (found c')
    (record { answered = rw (← copied.answered, c.in_err-copy_out.was) (search rules); lent = copied.lent })

pub returns-in_err-report : goal.returns-in_err-report
unfolding write_answer write_into
returns-in_err-report c =
    rw (← c.desync_report.ensures, c.in_err-report.was) (record { answered = search rules; lent = refl })

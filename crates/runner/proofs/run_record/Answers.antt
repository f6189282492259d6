use Rattle.std.proofs.Common.{refl}
use Rattle.runner.specs.Runner.{run_record, record_lines}
use Rattle.runner.proofs.Laws.{shown_behind}
use Rattle.runner.proofs.run_record.Goals as goal

pub returns : goal.returns
unfolding run_record record_lines
returns c =
    let ran = rw (c.asked_by-asked.ensures, c.rest_of.ensures, c.traces.ensures) at c.run_asked.ensures in
    let shown = c.show.ensures in
    let all = shown_behind _ ran.says shown.writes shown.within in
    rw (← ran.next) (record { next = refl; wrote = all.0; fits = all.1 })

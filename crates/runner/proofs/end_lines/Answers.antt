use Rattle.std.proofs.Common.{eq-eqb, ne_eqb, arith}
use Rattle.logic.specs.Test.{when◌then◌else◌}
use Rattle.runner.specs.Runner.{end_lines}
use Rattle.runner.proofs.Laws.{shown_behind}
use Rattle.runner.proofs.end_lines.Goals as goal

pub returns-then-begun-eq0 : goal.returns-then-begun-eq0
unfolding end_lines when◌then◌else◌
returns-then-begun-eq0 c =
    rw (eq-eqb _ _ c.if-begun-eq0.true) (record { writes = c.clear.ensures; within = omega arith })

pub returns : goal.returns
unfolding end_lines when◌then◌else◌
returns c =
    let shown = c.show.ensures in
    let all = shown_behind _ c.cut_line.ensures shown.writes shown.within in
    rw (ne_eqb _ _ c.if-begun-eq0.false) (record { writes = all.0; within = all.1 })

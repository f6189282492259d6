use Rattle.std.proofs.Common.{◌≡◌, ◌+◌, ◌-◌, ◌*◌, ◌≤◌, [], length, drop}
use Rattle.text.specs.Text.{put}
use Rattle.lines.specs.Lines.{field_texts}
use Rattle.lines.proofs.fields.Given as goal

abbrev pub invariant-loop-row : goal.invariant-loop-row
invariant-loop-row l =
    let rows = l.fn.rows in
    let all = field_texts l.step.count l.step.width rows in
    let rest = field_texts (l.step.count - l.row-index) l.step.width (drop l.row-index rows) in
    (l.out ≡ put l.out []) × (put l.out rest ≡ put l.initial.out all)
    × (length all ≤ 33 * l.row-index + length rest)

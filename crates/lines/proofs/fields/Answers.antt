-- `lines::fields` meets its contract: the rows that are left give what all of them give, and each row done has at
-- most 33 bytes. Assumes nothing.
use Rattle.std.proofs.Common.{◌≡◌, ◌+◌, ◌-◌, ◌<◌, ◌≤◌, min, [], length, drop, sym, ap, ◌∙◌, length-append, length-take, arith, rules}
use Rattle.std.proofs.lemmas.List.{get_or-take}
use native.Mathlib.Nat.{sub-zero}
use Rattle.peer.specs.Seats.{seats}
use Rattle.text.specs.Text.{put}
use Rattle.text.proofs.Writing.{put-append, put_on}
use Rattle.lines.specs.Lines.{field_texts}
use Rattle.lines.proofs.Laws.{fields_row, fields_end}
use Rattle.lines.proofs.fields.Goals as goal

pub loop-row-init : goal.loop-row-init
loop-row-init c = (put_on _ _ c.flag.ensures, rw sub-zero, rw sub-zero (omega arith))

pub loop-row-preserved : goal.loop-row-preserved
loop-row-preserved c =
    let l = c.loop-row in
    let a = c.args in
    let step = a.step in
    let k = l.row-index in
    let inside : k < min c.min.result (length a.rows) = rw length-take at c.loop-row-test.true in
    let field = rw (get_or-take c.min.result a.rows k [] (omega arith)) at c.field.ensures in
    let row = fields_row step.count step.width a.rows k (omega (arith, c.from.ensures)) (omega arith) in
    let rest = field_texts (step.count - (k + 1)) step.width (drop (k + 1) a.rows) in
    let longer : length (field_texts (step.count - k) step.width (drop k a.rows)) ≤ 33 + length rest =
    rw (row, length-append) (omega (arith, field.within)) in (
      put_on _ _ field.writes,
      ap (λ text. put text rest) field.writes ∙ sym (put-append _ _ _) ∙ sym (ap (put l.out) row) ∙ l.invariant.1,
      omega (arith, l.invariant.2, longer),
    )

pub returns : goal.returns
returns c =
    let l = c.loop-row in
    let a = c.args in
    let step = a.step in
    let long : length a.rows ≡ seats = search rules in
    let most = rw length-take at l.auto.row-index-end in
    let past = rw length-take at c.loop-row-test.false in
    let done : field_texts (step.count - l.row-index) step.width (drop l.row-index a.rows) ≡ [] =
    fields_end step.count step.width a.rows l.row-index (omega (arith, long, c.from.ensures, past)) in
    let all = rw (done, c.flag.ensures) at l.invariant.1 in
    record { writes = l.invariant.0 ∙ all; within = omega (arith, rw done at l.invariant.2, most) }

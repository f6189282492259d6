-- `lines::step_line` meets its contract. Assumes nothing.
use Rattle.std.proofs.Common.{arith, rules}
use Rattle.text.proofs.Writing.{put-join, join-length}
use Rattle.text.proofs.Decimals.{decimal_20}
use Rattle.lines.specs.Lines.{step_line}
use Rattle.lines.proofs.Laws.{says, flag_one}
use Rattle.lines.proofs.step_line.Goals as goal

pub returns : goal.returns
unfolding step_line
returns c =
    let fields = c.fields.ensures in
    says c.clear.ensures (rw (put-join, ← c.worded.ensures, ← c.byte.ensures, ← fields.writes) c.byte-2.ensures)
    (rw (join-length, flag_one) (omega (arith, fields.within, decimal_20 c.args.step.tick (search rules))))

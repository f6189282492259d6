-- `lines::stalled_line` meets its contract. Assumes nothing.
use Rattle.std.proofs.Common.{arith}
use Rattle.text.proofs.Writing.{put-join, join-length}
use Rattle.text.proofs.Decimals.{decimal_20}
use Rattle.lines.specs.Lines.{stalled_line}
use Rattle.lines.proofs.Laws.{says}
use Rattle.lines.proofs.stalled_line.Goals as goal

pub returns : goal.returns
unfolding stalled_line
returns c =
    let a = c.args in
    says c.clear.ensures
    (rw (put-join, ← c.worded.ensures, ← rw c.from.ensures at c.worded-2.ensures, ← c.worded-3.ensures) c.byte.ensures)
    (rw join-length (omega (
      arith,
      decimal_20 a.tick (omega arith),
      decimal_20 a.waiting (omega arith),
      decimal_20 a.pumps (omega arith),
    )))

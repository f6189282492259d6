-- `lines::ended` meets its contract. Assumes nothing.
use Rattle.std.proofs.Common.{arith}
use Rattle.text.proofs.Writing.{put-join, join-length}
use Rattle.lines.specs.Lines.{ended_line}
use Rattle.lines.proofs.Laws.{says}
use Rattle.lines.proofs.ended.Goals as goal

pub returns : goal.returns
unfolding ended_line
returns c =
    says c.clear.ensures (rw (put-join, ← c.piece.ensures, ← c.outcome.ensures.writes) c.byte.ensures)
    (rw join-length (omega (arith, c.outcome.ensures.within)))

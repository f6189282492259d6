-- `lines::numbered` meets its contract. Assumes nothing.
use Rattle.std.proofs.Common.{arith}
use Rattle.text.proofs.Writing.{put-join}
use Rattle.lines.specs.Lines.{numbered}
use Rattle.lines.proofs.Laws.{says, numbered-length}
use Rattle.lines.proofs.numbered.Goals as goal

pub returns : goal.returns
unfolding numbered
returns c =
    let a = c.args in
    let few = numbered-length a.name.now a.n (omega arith) (omega arith) in
    says c.clear.ensures (rw (put-join, ← rw c.from.ensures at c.worded.ensures) c.byte.ensures) (omega arith)

use Rattle.std.proofs.Common.{length}
use Rattle.handmade.proofs.from_each.Given as goal

abbrev pub decreases-loop-size : goal.decreases-loop-size
decreases-loop-size l = length l.left

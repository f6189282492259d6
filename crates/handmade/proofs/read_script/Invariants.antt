use Rattle.std.proofs.Common.{◌-◌, ◌≤◌, length}
use Rattle.handmade.proofs.read_script.Given as goal

abbrev pub invariant-loop-at : goal.invariant-loop-at
invariant-loop-at l = l.at ≤ length l.buffer

abbrev pub decreases-loop-at : goal.decreases-loop-at
decreases-loop-at l = length l.buffer - l.at

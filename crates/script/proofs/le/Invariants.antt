use mathlib.Core.Path.{◌≡◌}
use Prim.Native.Nat.{◌+◌, ◌-◌, ◌*◌, ◌^◌, ◌<◌}
use Rattle.script.specs.Records.{le}
use Rattle.script.proofs.le.Given as goal

abbrev pub invariant-loop-i : goal.invariant-loop-i
invariant-loop-i l = (l.value ≡ le l.s (l.at + l.i) (l.n - l.i)) × (l.value < 2 ^ (8 * (l.n - l.i)))

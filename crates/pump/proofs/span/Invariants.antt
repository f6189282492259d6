use Rattle.std.specs.Prelude.{◌≡◌, ◌+◌, ◌-◌, ◌≤◌}
use Rattle.wire.specs.Wire.{redundancy}
use Rattle.pump.specs.Pump.{span}
use Rattle.pump.proofs.span.Given as goal

abbrev pub invariant-loop-n : goal.invariant-loop-n
invariant-loop-n l =
    (l.n ≤ redundancy) × (span l.window l.seat l.newest redundancy ≡ l.n + span l.window l.seat l.tick (redundancy - l.n))

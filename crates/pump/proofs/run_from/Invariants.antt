use Rattle.pump.specs.Pump.{run_byte}
use Rattle.pump.proofs.Loops.{RunTo}
use Rattle.pump.proofs.run_from.Given as goal

abbrev pub invariant-loop-j : goal.invariant-loop-j
invariant-loop-j l = RunTo (run_byte l.window l.seat l.first l.count l.width) l.j l.run

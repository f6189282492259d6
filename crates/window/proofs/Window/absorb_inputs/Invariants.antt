use mathlib.Core.Path.{◌≡◌}
use Rattle.window.specs.Absorb.{absorbed, absorb_first}
use Rattle.window.proofs.Window.absorb_inputs.Given as goal

abbrev pub invariant-loop-i : goal.invariant-loop-i
invariant-loop-i l =
    absorbed l.self l.taken
    ≡ absorb_first (absorbed l.initial.self l.initial.taken) l.pending l.seat l.inputs.first l.n l.run l.i

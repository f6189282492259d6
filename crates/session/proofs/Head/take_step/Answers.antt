-- `session::Head::take_step` meets its contract: the period is no 0. Assumes nothing.
use native.Mathlib.Omega.{arith}
use Rattle.params.proofs.Laws.{sound}
use Rattle.session.proofs.Head.take_step.Goals as goal

pub nonzero_rem-due : goal.nonzero_rem-due
nonzero_rem-due c = omega (arith, (sound c.args.self.now.params c.requires).period)

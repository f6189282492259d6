-- `pump::run_from` meets its contract: the run is filled from the front, and past the frames it is zero. Assumes
-- nothing.
use Prim.Native.Nat.{◌*◌}
use native.Mathlib.Omega.{arith}
use borrow.Author.Tests.{le-ltb}
use Rattle.logic.proofs.Cases.{if_false}
use Rattle.pump.specs.Pump.{run_byte, run_from}
use Rattle.pump.proofs.Loops.{run_none, run_more, run_whole}
use Rattle.pump.proofs.run_from.Goals as goal

pub loop-j-init : goal.loop-j-init
loop-j-init c = run_none

pub loop-j-preserved : goal.loop-j-preserved
loop-j-preserved c = run_more c.loop-j.invariant (omega arith) c.run_byte.ensures

pub returns : goal.returns
unfolding run_from run_byte
returns c =
    let a = c.args in
    let end = rw (c.from.ensures, c.from-2.ensures) at c.min-end.ensures in
    run_whole c.loop-j.invariant (λ k l m. if_false _ _ (le-ltb k (a.count * a.width) (omega (arith, end, l, m))))

-- `script::le` meets its contract: the bytes from the i-th on are read. Assumes nothing.
use mathlib.Core.Path.{◌≡◌, refl}
use Prim.Native.Nat.{◌+◌, ◌-◌, ◌*◌, ◌^◌, ◌≤◌, ◌<◌}
use native.Mathlib.Omega.{arith}
use Rattle.script.specs.Records.{le}
use Rattle.script.proofs.Laws.{le_more, le_room, le_fits}
use Rattle.script.proofs.le.Goals as goal
use Rattle.script.proofs.le.Goals.{After-from}

pub loop-i-init : goal.loop-i-init
unfolding le
loop-i-init c =
    let e : c.args.n - c.args.n ≡ 0 = omega arith in
    rw e (refl, omega arith)

-- one byte more is no more than eight bytes hold
room : (c : After-from) → let a = c.args in let at =
    c.loop-i in
    (c.from.result + at.value * 256 < 2 ^ (8 * (a.n - at.i + 1))) × (2 ^ (8 * (a.n - at.i + 1)) ≤ 2 ^ 64)
room c =
    let a = c.args in
    let at = c.loop-i in (
      le_room (a.n - at.i) at.value c.from.result at.invariant.1 (omega (arith, c.from.ensures, c.byte_at.type_inv)),
      le_fits (a.n - at.i) a.n (omega arith) (omega arith),
    )

pub overflow_mul-value : goal.overflow_mul-value
overflow_mul-value c = let r = room c in omega (arith, r.0, r.1)

pub overflow_add-value : goal.overflow_add-value
overflow_add-value c = let r = room c in omega (arith, r.0, r.1)

pub loop-i-preserved : goal.loop-i-preserved
loop-i-preserved c =
    let a = c.args in
    let at = c.loop-i in
    let e : a.n - (at.i - 1) ≡ a.n - at.i + 1 = omega arith in (
      rw (c.from.ensures, c.byte_at.ensures, at.invariant.0)
          (le_more _ a.at at.i a.n (omega arith) (omega arith)),
      rw e (room c).0,
    )

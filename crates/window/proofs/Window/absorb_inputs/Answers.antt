-- `window::Window::absorb_inputs` meets its contract: the loop carries the first i frames of the fold. Assumes nothing.
use Prim.Native.Nat.{ℕ, ◌+◌}
use mathlib.Core.Path.{◌≡◌, refl, ◌∙◌}
use mathlib.Core.List.{List}
use native.Mathlib.Numerals.{add-one}
use native.Mathlib.Omega.{arith}
use Rattle.logic.specs.Saturating.{sum}
use Rattle.window.specs.Absorb.{Absorbed, absorb_one, frame_at, absorb_first, absorb_inputs}
use Rattle.window.proofs.Parts.{part_to}
use Rattle.window.proofs.Window.absorb_inputs.Goals as goal

next : (s : Absorbed) (pending seat first n : ℕ) (run : List ℕ) (i : ℕ) (a b : Absorbed) (tick : ℕ) (part : List ℕ)
    → a ≡ absorb_first s pending seat first n run i → tick ≡ sum first i → part ≡ frame_at run n i
    → b ≡ absorb_one a pending seat tick part
    → b ≡ absorb_first s pending seat first n run (i + 1)
unfolding absorb_first
next s pending seat first n run i a b tick part e t p d = rw add-one (d ∙ cc)

pub loop-i-init : goal.loop-i-init
unfolding absorb_first
loop-i-init c = refl

pub loop-i-preserved : goal.loop-i-preserved
unfolding frame_at
loop-i-preserved c =
    let a = c.args in
    next _ a.pending a.seat a.inputs.first c.from-n.result a.run.now c.loop-i.i _ _ _ _ c.loop-i.invariant
    (rw c.from-in-loop-i.ensures at c.saturating_add-tick.ensures)
    (part_to _ _ _ _ _ (rw c.from.ensures at c.min-from.ensures) c.min-to.ensures) c.absorb_one.ensures

pub returns : goal.returns
unfolding absorb_inputs
returns c =
    let all : c.loop-i.i ≡ c.args.inputs.count = omega arith in
    rw (← all, ← c.from-n.ensures) c.loop-i.invariant

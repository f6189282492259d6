-- What comparing the bytes that stand with the message's decides: where the ring's stand, whether the frame is a
-- repeat; where the message's own stand, nothing, and the frame is written. Assumes nothing.
use Prim.Native.Nat.{ℕ, ◌-◌, ◌<◌, ◌≤◌}
use mathlib.Core.Path.{◌≡◌, refl}
use mathlib.Core.List.{List}
use mathlib.Core.Bool.{Bool, true, false, not}
use lib.Dec.{eqb}
use lib.ListN.{length}
use lib.Pointwise.{pointwise}
use borrow.Author.Tests.{le-ltb, lt-leb}
use Rattle.logic.specs.Test.{when◌then◌else◌}
use Rattle.peer.specs.Cells.{window}
use Rattle.window.specs.Window.{is_held, frame_of, frame_start, standing}
use Rattle.window.specs.Absorb.{Absorbed, same_bytes, absorb_one, repeats, stores, noted}
use Rattle.window.specs.declared.Note.TheVariants.{Contradiction}
use Rattle.window.proofs.Same.{same_is, same_refl}

turned : {A : Type 0} (b : Bool) (x z : A) → when b then x else z ≡ when not b then z else x
unfolding when◌then◌else◌
turned true x z = refl
turned false x z = refl

compared : {A : Type 0} (held : Bool) (frame bytes stands : List ℕ) (x y z : A)
    → stands ≡ when held then frame else bytes
    → when held then (when same_bytes frame bytes then x else z) else y
    ≡ when not (same_bytes stands bytes) then z else when held then x else y
unfolding when◌then◌else◌
compared true frame bytes stands x y z e = rw e (turned (same_bytes frame bytes) x z)
compared false frame bytes stands x y z e = rw (e, same_refl bytes)

-- the rules for a frame within the window, by that comparison
pub by_comparison : (a : Absorbed) (pending seat tick : ℕ) (bytes : List ℕ) (held differs : Bool)
    (at : ℕ) (stands : List ℕ)
    → pending ≤ tick → tick - pending < window → held ≡ is_held a.window seat tick → at ≡ frame_start seat tick
    → stands ≡ standing held a.window.ring at bytes → differs ≡ not (pointwise eqb stands bytes)
    → absorb_one a pending seat tick bytes
    ≡ when differs then noted a (Contradiction seat tick)
    else when held then repeats a else stores a seat tick bytes
unfolding absorb_one standing frame_of when◌then◌else◌
by_comparison a pending seat tick bytes held differs at stands h k p q d e =
    rw (le-ltb _ _ h, lt-leb _ _ k, ← p, e, same_is stands bytes)
    (compared held (frame_of a.window seat tick (length bytes)) bytes stands (repeats a)
    (stores a seat tick bytes) (noted a (Contradiction seat tick)) (rw q at d))

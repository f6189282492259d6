-- A session that goes on past tick 0, computed from the definitions: each step is of the pending tick, carries the
-- bytes that were pressed for it, and goes on from the digest of the one before.
-- Assumes nothing.
use Prim.Native.Nat.{ℕ, ◌-◌}
use mathlib.Core.Path.{◌≡◌, refl}
use mathlib.Core.Bool.{Bool, true, false}
use mathlib.Core.List.{List, [], ◌∷◌}
use lib.ListN.{replicate}
use Rattle.std.specs.Prelude.{None, Some}
use Rattle.peer.specs.Seats.{seats}
use Rattle.params.specs.declared.SessionParams.{SessionParams}
use Rattle.window.specs.Window.{write_frame}
use Rattle.session.specs.declared.Session.{Session}
use Rattle.session.specs.declared.Advance.{Advance}
use Rattle.session.specs.declared.Advance.TheVariants as Advance'
use Rattle.session.specs.declared.Advanced.{Advanced}
use Rattle.session.specs.Session.{session_of, with_head, with_marks}
use Rattle.session.specs.Host.{opened, submit}
use Rattle.session.specs.Step.{advance, commit}
use Rattle.session.proofs.Computing.{hosting}

-- seat 0 of two, a byte a tick, a digest for every other one
pair : SessionParams
pair = record { count = 2; local = 0; width = 1; delay = 0; period = 2; seed = 0; content = 0; rules = 0; session = 9 }

-- seat 1 has said Hello
greeted : Session
greeted =
    let s = (opened pair).session in
    with_head s (with_marks s.head (record { hellos = 3; playing = 0; started = false }))

-- both press for the tick; seat 1's byte is stored as an accepted Inputs stores it
both : Session → (tick mine theirs : ℕ) → Session
both s tick mine theirs =
    let t = (submit s (mine ∷ [])).session in
    session_of t.head (write_frame t.window 1 tick (theirs ∷ [])) t.prints

-- ticks 0, 1 and 2, the earlier ones committed
first : Advanced
first = advance (both greeted 0 0x41 0x42)

second : Advanced
second = advance (both (commit first.session 0 (Some 5)).session 1 0x43 0x44)

third : Advanced
third = advance (both (commit second.session 1 None).session 2 0x45 0x46)

-- an answer, the rows beside it and the input digest that is left
record Shown : Type 0 where
  answer : Advance
  rows : List (List ℕ)
  digest : ℕ

shown : Advanced → Shown
shown a = record { answer = a.answer; rows = a.frames; digest = a.session.head.play.digest }

-- a step of the tick with the two seats' bytes
stepped : ℕ → Bool → (mine theirs digest : ℕ) → Shown
stepped tick due mine theirs digest = record {
  answer = Advance'.Step (record { tick = tick; due = due; count = 2; width = 1 });
  rows = (mine ∷ replicate 15 0) ∷ (theirs ∷ replicate 15 0) ∷ replicate (seats - 2) (replicate 16 0);
  digest = digest;
}

-- the digests are worked out apart: FNV-1a 64 of each tick and its two bytes, one after the other
three_steps : shown first ∷ shown second ∷ shown third ∷ []
    ≡ stepped 0 true 0x41 0x42 7563201615092177098
    ∷ stepped 1 false 0x43 0x44 17649756686429412404
    ∷ stepped 2 true 0x45 0x46 4997215071877954205
    ∷ []
unfolding hosting pair greeted both first second third shown stepped
three_steps = refl

-- Deliveries of one Inputs, computed from the definitions: with several bad frames, and with another width, which
-- answer it gets and what is counted; refused, whether its sender is marked as playing.
-- Assumes nothing.
use Prim.Native.Nat.{ℕ}
use mathlib.Core.Path.{◌≡◌, refl}
use mathlib.Core.List.{List, [], ◌∷◌}
use mathlib.Core.Bool.{Bool, true, false}
use Rattle.params.specs.declared.SessionParams.{SessionParams}
use Rattle.wire.specs.declared.Body.TheVariants.{Inputs}
use Rattle.window.specs.Window.{is_held}
use Rattle.stats.specs.declared.SessionStats.{SessionStats}
use Rattle.session.specs.Host.{opened}
use Rattle.session.specs.declared.Session.{Session}
use Rattle.session.specs.declared.Answered.{Answered}
use Rattle.deliver.specs.declared.Refusal.TheVariants.{OutOfWindow, Contradiction, WrongWidth}
use Rattle.deliver.specs.declared.Delivery.{Delivery}
use Rattle.deliver.specs.declared.Delivery.TheVariants.{Accepted, Refused}
use Rattle.deliver.specs.Numbers.{delivery_no}
use Rattle.deliver.specs.Deliver.{deliver}
use Rattle.deliver.proofs.Computing.{delivering}

-- what a delivery did: its answer, the counters, and whether seat 1's frame for a tick is held afterwards
record Shown : Type 0 where
  answer : Delivery
  stats : SessionStats
  held : Bool

shown : Answered Delivery → ℕ → Shown
shown d tick = record { answer = d.answer; stats = d.session.head.stats; held = is_held d.session.window 1 tick }

-- no digest came, and nothing stalled
did : Delivery → (refused repeated contradicted beyond : ℕ) → Bool → Shown
did answer refused repeated contradicted beyond held = record {
  answer = answer;
  stats = record {
    datagrams_refused = refused;
    frames_repeated = repeated;
    frames_contradicted = contradicted;
    frames_out_of_window = beyond;
    digests_contradicted = 0;
    stall_pumps = 0;
  };
  held = held;
}

-- seat 0 of two, a byte a tick
pair : SessionParams
pair = record { count = 2; local = 0; width = 1; delay = 0; period = 1; seed = 0; content = 0; rules = 0; session = 9 }

-- seat 1 sends `count` frames of `width` bytes each from this tick
send : Session → (first count width : ℕ) → List ℕ → Answered Delivery
send s first count width run =
    let inputs = Inputs (record { first = first; count = count; width = width }) in
    deliver s 1 (record { sender = 1; session = 9; body = inputs }) run

new : Session
new = (opened pair).session

-- it has pressed for tick 62, for 62 and 63
one : Session
one = (send new 62 1 1 (66 ∷ [])).session

two : Session
two = (send one 63 1 1 (67 ∷ [])).session

-- A message is refused once, by its last note, however many of its frames are bad. Its ticks rise, so 27 never comes
-- before 28.
last_notes :
    -- ticks 62 and 63 contradicted: 28 for 63
    shown (send two 62 2 1 (68 ∷ 69 ∷ [])) 63
    -- tick 62 contradicted, 63 repeated, 64 out of the window: 27
    ∷ shown (send two 62 3 1 (68 ∷ 67 ∷ 70 ∷ [])) 64
    -- ticks 64 and 65 out of the window: 27 for 65
    ∷ shown (send two 64 2 1 (70 ∷ 71 ∷ [])) 65
    -- tick 62 contradicted, 63 written, 64 out of the window: 0, and the counters rise as with 27
    ∷ shown (send one 62 3 1 (68 ∷ 67 ∷ 70 ∷ [])) 63
    -- tick 61 written, 62 and 63 contradicted: 0, and the counters rise as with 28
    ∷ shown (send two 61 3 1 (65 ∷ 68 ∷ 69 ∷ [])) 61
    ∷ []
    ≡ did (Refused (Contradiction 1 63)) 1 0 1 0 true
    ∷ did (Refused (OutOfWindow 64 0)) 1 1 0 1 false
    ∷ did (Refused (OutOfWindow 65 0)) 1 0 0 1 false
    ∷ did Accepted 1 0 0 1 true
    ∷ did Accepted 1 0 1 0 true
    ∷ []
unfolding delivering shown did pair send new one two
last_notes = refl

-- 29 comes before any frame: none is written, repeated, contradicted or out of the window
other_width :
    shown (send one 63 1 2 (67 ∷ 67 ∷ [])) 63
    ∷ shown (send one 62 1 2 (66 ∷ 66 ∷ [])) 62
    ∷ shown (send one 62 3 2 (68 ∷ 68 ∷ 67 ∷ 67 ∷ 70 ∷ 70 ∷ [])) 63
    ∷ []
    ≡ did (Refused (WrongWidth 2 1)) 1 0 0 0 false
    ∷ did (Refused (WrongWidth 2 1)) 1 0 0 0 true
    ∷ did (Refused (WrongWidth 2 1)) 1 0 0 0 false
    ∷ []
unfolding delivering shown did pair send new one two
other_width = refl

-- the answer, and the seats that are marked as playing
marked_by : Answered Delivery → List ℕ
marked_by d = delivery_no d.answer ∷ d.session.head.marks.playing ∷ []

-- 27 and 29 come past 21 to 25 and set seat 1's mark; a run that is too short is 21 and sets none
marks :
    marked_by (send new 64 1 1 (66 ∷ []))
    ∷ marked_by (send new 0 1 2 (66 ∷ 66 ∷ []))
    ∷ marked_by (send new 0 2 1 (66 ∷ []))
    ∷ []
    ≡ (27 ∷ 2 ∷ []) ∷ (29 ∷ 2 ∷ []) ∷ (21 ∷ 0 ∷ []) ∷ []
unfolding delivering pair send new marked_by
marks = refl

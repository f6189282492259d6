-- Two runs, computed from the definitions, so that the theorem is seen not to be empty: one in which two sessions join,
-- play, step and commit over lost and repeated messages, and one in which a fork is found. Assumes nothing.
use Prim.Native.Nat.{ℕ}
use mathlib.Core.Path.{◌≡◌, refl}
use mathlib.Core.List.{List, [], ◌∷◌, ◌++◌}
use lib.ListN.{take}
use Rattle.std.specs.Prelude.{None, Option, Some}
use Rattle.params.specs.declared.SessionParams.{SessionParams}
use Rattle.session.specs.declared.Outcome.TheVariants.{Desynced, PeerLeft, LeftLocally}
use Rattle.session.specs.declared.Outcome.{Outcome}
use Rattle.deliver.proofs.Computing.{delivering}
use Rattle.pump.proofs.Computing.{pumping}
use Rattle.agreement.specs.World.{Event, pressed, stepped, committed, Call, submits, delivers, advances, commits}
use Rattle.agreement.specs.World.{pumps, press_shown, submit_turn, deliver_turn, step_shown, advance_turn, commit_shown}
use Rattle.agreement.specs.World.{commit_turn, mailed, pump_turn, turn, seat_of, update, after, play, run}

-- two seats, a byte a tick, no delay, a digest for each tick
abbrev pair : SessionParams
pair = record { count = 2; local = 0; width = 1; delay = 0; period = 1; seed = 0; content = 0; rules = 0; session = 9 }

-- an event as numbers: 1 a press, 2 a step with the two seats' bytes and the digest that it leaves, 3 a commit
bytes_of : List (List ℕ) → List ℕ
bytes_of [] = []
bytes_of (row ∷ rows) = take 1 row ++ bytes_of rows

told : List Event → List ℕ
told [] = []
told (pressed k t b ∷ es) = (1 ∷ k ∷ t ∷ b) ++ told es
told (stepped k t rows d ∷ es) = (2 ∷ k ∷ t ∷ take 2 (bytes_of rows)) ++ (d ∷ told es)
told (committed k t d ∷ es) = 3 ∷ k ∷ t ∷ d ∷ told es

-- how a session ended: 0 not at all; 1 desynced, at its tick
ending : Option Outcome → List ℕ
ending None = 0 ∷ []
ending (Some (Desynced t)) = 1 ∷ t ∷ []
ending (Some (PeerLeft k t)) = 2 ∷ []
ending (Some (LeftLocally t)) = 3 ∷ []

-- the last call first. Each seat's first Hello is lost and its second arrives; both press; seat 1's Inputs comes twice;
-- both step
join : List Call
join =
    advances 1 ∷ advances 0 ∷ delivers 1 1 ∷ delivers 0 0 ∷ delivers 0 0 ∷ pumps 1 ∷ pumps 0
    ∷ submits 1 (0x42 ∷ []) ∷ submits 0 (0x41 ∷ [])
    ∷ delivers 1 1 ∷ delivers 0 0 ∷ pumps 1 ∷ pumps 0 ∷ pumps 1 ∷ pumps 0 ∷ pumps 1 ∷ pumps 0 ∷ []

-- both commit, and seat 0's digest reaches seat 1
committing : (ours theirs : ℕ) → List Call
committing ours theirs = delivers 1 0 ∷ pumps 0 ∷ commits 1 0 (Some theirs) ∷ commits 0 0 (Some ours) ∷ join

-- what was shown, newest first, and how the two sessions stand
summary : List Call → List ℕ
summary cs = let w = run pair cs in told w.log ++ ending (w.at 0).head.outcome ++ ending (w.at 1).head.outcome

-- the step's digest, worked out apart: FNV-1a 64 of tick 0 and the bytes 41, 42
abbrev digest : ℕ
digest = 7563201615092177098

-- a run and what it is to show: the commits, the steps and the presses, and how the two sessions stand
record Run : Type 0 where
  calls : List Call
  shows : List ℕ

-- both commit 5, and neither session ends
healthy : Run
healthy = record {
  calls = committing 5 5;
  shows =
      3 ∷ 1 ∷ 0 ∷ 5 ∷ 3 ∷ 0 ∷ 0 ∷ 5
      ∷ 2 ∷ 1 ∷ 0 ∷ 0x41 ∷ 0x42 ∷ digest ∷ 2 ∷ 0 ∷ 0 ∷ 0x41 ∷ 0x42 ∷ digest
      ∷ 1 ∷ 1 ∷ 0 ∷ 0x42 ∷ 1 ∷ 0 ∷ 0 ∷ 0x41
      ∷ 0 ∷ 0 ∷ [];
}

-- the two commits differ, and seat 1, which hears of it, ends as desynced at tick 0
fork : Run
fork = record {
  calls = committing 5 6;
  shows =
      3 ∷ 1 ∷ 0 ∷ 6 ∷ 3 ∷ 0 ∷ 0 ∷ 5
      ∷ 2 ∷ 1 ∷ 0 ∷ 0x41 ∷ 0x42 ∷ digest ∷ 2 ∷ 0 ∷ 0 ∷ 0x41 ∷ 0x42 ∷ digest
      ∷ 1 ∷ 1 ∷ 0 ∷ 0x42 ∷ 1 ∷ 0 ∷ 0 ∷ 0x41
      ∷ 0 ∷ 1 ∷ 0 ∷ [];
}

-- the two as one table under a single proof
runs : summary healthy.calls ∷ summary fork.calls ∷ [] ≡ healthy.shows ∷ fork.shows ∷ []
unfolding delivering pumping press_shown submit_turn deliver_turn step_shown advance_turn commit_shown commit_turn
    mailed pump_turn turn seat_of update after play run bytes_of told ending join committing summary healthy fork
runs = refl

-- Document 01, "Both sides of each limit": the cases P1 to P10 in its order, as one table, with a row for each side of
-- a limit. What is computed is computed from the definitions that the calls are promised to meet, and every session is
-- grown by such calls from `opened`. Assumes nothing.
use Rattle.std.specs.Prelude.{ℕ, zero, suc, List, [], ◌∷◌, Some, Ok, Err}
use Rattle.hash.specs.Fnv.{start, fnv}
use Rattle.peer.specs.Seats.{bit}
use Rattle.params.specs.Params.{validity_no, agreement_of}
use Rattle.params.specs.declared.SessionParams.{SessionParams}
use Rattle.wire.specs.declared.Body.{Body}
use Rattle.wire.specs.declared.Body.TheVariants.{Hello, Inputs}
use Rattle.window.specs.Window.{is_held}
use Rattle.session.specs.declared.Outcome.{Outcome}
use Rattle.session.specs.declared.Outcome.TheVariants.{Desynced, PeerLeft, LeftLocally}
use Rattle.session.specs.declared.Session.{Session}
use Rattle.session.specs.declared.Answered.{Answered}
use Rattle.session.specs.Numbers.{Leave, leave_no}
use Rattle.session.specs.Host.{opened, submit, leave}
use Rattle.session.specs.Step.{advance, commit}
use Rattle.deliver.specs.declared.Delivery.{Delivery}
use Rattle.deliver.specs.Numbers.{delivery_no}
use Rattle.deliver.specs.Deliver.{deliver}

-- ---- sessions grown by calls

-- seat 0 of a circle that presses one byte a tick, with case R's session number
abbrev pub circle : (count delay period : ℕ) → SessionParams
circle count delay period = record {
  count = count;
  local = 0;
  width = 1;
  delay = delay;
  period = period;
  seed = 0;
  content = 0;
  rules = 0;
  session = 9;
}

-- two seats, no delay, a digest for each tick
abbrev pub pair : SessionParams
pair = circle 2 0 1

abbrev pub new : Session
new = (opened pair).session

-- what comes in from seat 1
abbrev pub hears : Session → Body → List ℕ → Answered Delivery
hears s body run = deliver s 1 (record { sender = 1; session = 9; body = body }) run

-- its Hello, over the same parameters
abbrev pub greeted : Session → Session
greeted s =
    (hears s (Hello (record {
      agreement = agreement_of pair;
      content = 0;
      rules = 0;
      seed = 0;
      count = 2;
      width = 1;
      delay = 0;
      period = 1;
    })) []).session

-- its presses for `count` ticks from the first on, a byte each
abbrev pub sends : Session → (first count : ℕ) → List ℕ → Answered Delivery
sends s first count run = hears s (Inputs (record { first = first; count = count; width = 1 })) run

-- its press for tick 0 is in, and that for tick 1 too
abbrev pub once : Session
once = (sends new 0 1 (0x42 ∷ [])).session

abbrev pub twice : Session
twice = (sends once 1 1 (0x44 ∷ [])).session

-- both seats have pressed for the tick
abbrev pub pressed : Session → ℕ → Session
pressed s tick = (sends (submit s (0x41 ∷ [])).session tick 1 (0x42 ∷ [])).session

-- the tick is stepped and committed
abbrev pub stepped : Session → ℕ → Session
stepped s tick = (commit (advance s).session tick (Some 5)).session

-- the session that has played the ticks below n, so that n is pending
unfoldable pub played : ℕ → Session
played zero = greeted new
played (suc n) = stepped (pressed (played n) n) n

-- ---- what a call gives, as numbers

-- the answer to an open
abbrev pub open_no : (count delay period : ℕ) → ℕ
open_no count delay period = validity_no (opened (circle count delay period)).answer

-- of a delivery: pending, the answer; the six counters; and 1 if seat 1's frame for the tick is held afterwards
abbrev pub counted : Answered Delivery → ℕ → List ℕ
counted d tick =
    d.session.head.play.pending ∷ delivery_no d.answer
    ∷ d.session.head.stats.datagrams_refused ∷ d.session.head.stats.frames_repeated
    ∷ d.session.head.stats.frames_contradicted ∷ d.session.head.stats.frames_out_of_window
    ∷ d.session.head.stats.digests_contradicted ∷ d.session.head.stats.stall_pumps
    ∷ bit (is_held d.session.window 1 tick) ∷ []

-- why a session ended, as the script runner prints it: 1 desynced, 2 peer left, 3 left locally; and at which tick
abbrev pub why : Outcome → ℕ
why (Desynced tick) = 1
why (PeerLeft peer tick) = 2
why (LeftLocally tick) = 3

abbrev pub when : Outcome → ℕ
when (Desynced tick) = tick
when (PeerLeft peer tick) = tick
when (LeftLocally tick) = tick

abbrev pub ending : Leave → List ℕ
ending (Ok o) = why o ∷ when o ∷ []
ending (Err bad) = []

-- of a leave: pending, the answer, and the outcome
abbrev pub left : Session → List ℕ
left s = s.head.play.pending ∷ leave_no (leave s).answer ∷ ending (leave s).answer

-- ---- the table

-- a case's number, what the definitions give, and what document 01 says
pub record Row : Type 0 where
  pub name : ℕ
  pub given : List ℕ
  pub said : List ℕ

abbrev pub row : ℕ → List ℕ → List ℕ → Row
row name given said = record { name = name; given = given; said = said }

unfoldable pub table : List Row
table =
    -- P1 counts 1, 9: 11; 2, 8 pass
    row 1 (open_no 1 0 1 ∷ []) (11 ∷ [])
    ∷ row 1 (open_no 2 0 1 ∷ []) (0 ∷ [])
    ∷ row 1 (open_no 8 0 1 ∷ []) (0 ∷ [])
    ∷ row 1 (open_no 9 0 1 ∷ []) (11 ∷ [])
    -- P2 at pending 0, a new frame at tick 63: 0
    ∷ row 2 (counted (sends new 63 1 (0x42 ∷ [])) 63) (0 ∷ 0 ∷ 0 ∷ 0 ∷ 0 ∷ 0 ∷ 0 ∷ 0 ∷ 1 ∷ [])
    -- P3 at 64: 27
    ∷ row 3 (counted (sends new 64 1 (0x42 ∷ [])) 64) (0 ∷ 27 ∷ 1 ∷ 0 ∷ 0 ∷ 1 ∷ 0 ∷ 0 ∷ 0 ∷ [])
    -- P4 the same frame twice: 0, one repeat
    ∷ row 4 (counted (sends new 0 1 (0x42 ∷ [])) 0) (0 ∷ 0 ∷ 0 ∷ 0 ∷ 0 ∷ 0 ∷ 0 ∷ 0 ∷ 1 ∷ [])
    ∷ row 4 (counted (sends once 0 1 (0x42 ∷ [])) 0) (0 ∷ 0 ∷ 0 ∷ 1 ∷ 0 ∷ 0 ∷ 0 ∷ 0 ∷ 1 ∷ [])
    -- P5 tick 0 contradicted, tick 1 new: 0, refused 1, contradicted 1. With nothing new it is 28, and counted once too
    -- where both ticks are contradicted; and the bytes that came first stand: they repeat
    ∷ row 5 (counted (sends once 0 2 (0x43 ∷ 0x44 ∷ [])) 1) (0 ∷ 0 ∷ 1 ∷ 0 ∷ 1 ∷ 0 ∷ 0 ∷ 0 ∷ 1 ∷ [])
    ∷ row 5 (counted (sends once 0 1 (0x43 ∷ [])) 1) (0 ∷ 28 ∷ 1 ∷ 0 ∷ 1 ∷ 0 ∷ 0 ∷ 0 ∷ 0 ∷ [])
    ∷ row 5 (counted (sends twice 0 2 (0x43 ∷ 0x45 ∷ [])) 1) (0 ∷ 28 ∷ 1 ∷ 0 ∷ 1 ∷ 0 ∷ 0 ∷ 0 ∷ 1 ∷ [])
    ∷ row 5 (counted (sends (sends once 0 2 (0x43 ∷ 0x44 ∷ [])).session 0 2 (0x42 ∷ 0x44 ∷ [])) 1)
    (0 ∷ 0 ∷ 1 ∷ 2 ∷ 1 ∷ 0 ∷ 0 ∷ 0 ∷ 1 ∷ [])
    -- P6 pending 3, frame for 2: 0, no counter. At pending 2 the same frame is 28
    ∷ row 6 (counted (sends (played 3) 2 1 (0x43 ∷ [])) 2) (3 ∷ 0 ∷ 0 ∷ 0 ∷ 0 ∷ 0 ∷ 0 ∷ 0 ∷ 1 ∷ [])
    ∷ row 6 (counted (sends (pressed (played 2) 2) 2 1 (0x43 ∷ [])) 2) (2 ∷ 28 ∷ 1 ∷ 0 ∷ 1 ∷ 0 ∷ 0 ∷ 0 ∷ 1 ∷ [])
    -- P7 delay 63 passes, 64: 14
    ∷ row 7 (open_no 2 63 1 ∷ []) (0 ∷ [])
    ∷ row 7 (open_no 2 64 1 ∷ []) (14 ∷ [])
    -- P8 count 9 and period 0: 11. With count 8 it is 15
    ∷ row 8 (open_no 9 0 0 ∷ []) (11 ∷ [])
    ∷ row 8 (open_no 8 0 0 ∷ []) (15 ∷ [])
    -- P9 leave at pending 0: tick 0. Also at pending 1; at pending 2 tick 1
    ∷ row 9 (left new) (0 ∷ 1 ∷ 3 ∷ 0 ∷ [])
    ∷ row 9 (left (played 1)) (1 ∷ 1 ∷ 3 ∷ 0 ∷ [])
    ∷ row 9 (left (played 2)) (2 ∷ 1 ∷ 3 ∷ 1 ∷ [])
    -- P10 hash of nothing is the start value
    ∷ row 10 (fnv start [] ∷ []) (14695981039346656037 ∷ [])
    ∷ []

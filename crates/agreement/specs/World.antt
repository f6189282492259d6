-- Demand 3's runs: "lists of calls, each on the state that the same session's last call handed back; a delivery gives
-- any message that an earlier call of the list made, as often as you like". What is pressed, stepped and committed is
-- taken from the calls' answers. Assumes nothing.
use Rattle.std.specs.Prelude.{ℕ, ◌*◌, List, [], ◌∷◌, ◌++◌, Option, None, Some, Ok, Err, eqb, ltb, take, slice_get}
use Rattle.logic.specs.Test.{when◌then◌else◌}
use Rattle.params.specs.declared.SessionParams.{SessionParams}
use Rattle.wire.specs.declared.Body.{Body}
use Rattle.wire.specs.declared.Body.TheVariants as Body'
use Rattle.wire.specs.declared.Message.{Message}
use Rattle.session.specs.declared.Session.{Session}
use Rattle.session.specs.declared.Answered.{Answered}
use Rattle.session.specs.declared.Advance.{Advance}
use Rattle.session.specs.declared.Advance.TheVariants as Advance'
use Rattle.session.specs.declared.Advanced.{Advanced}
use Rattle.session.specs.Numbers.{Submit, Commit}
use Rattle.session.specs.Host.{opened, submit, leave}
use Rattle.session.specs.Step.{advance, commit}
use Rattle.deliver.specs.Deliver.{deliver}
use Rattle.pump.specs.declared.Outbound.{Outbound}
use Rattle.pump.specs.declared.Outbound.TheVariants as Outbound'
use Rattle.pump.specs.declared.Pumped.{Pumped}
use Rattle.pump.specs.Pump.{pump}

-- ---- the circle

-- equal parameters except the seat
abbrev pub seated : SessionParams → ℕ → SessionParams
seated p i = record {
  count = p.count;
  local = i;
  width = p.width;
  delay = p.delay;
  period = p.period;
  seed = p.seed;
  content = p.content;
  rules = p.rules;
  session = p.session;
}

-- a message that a pump made, with its true source and the bytes of its run
pub record Mail : Type 0 where
  pub source : ℕ
  pub message : Message
  pub run : List ℕ

-- what a call's answer shows: an accepted press, a step with its rows and the input digest that it leaves, a world
-- digest committed
pub data Event : Type 0 where
  pressed : (seat tick : ℕ) → List ℕ → Event
  stepped : (seat tick : ℕ) → List (List ℕ) → (digest : ℕ) → Event
  committed : (seat tick state : ℕ) → Event

-- the sessions, every message made so far, and all that was shown
pub record World : Type 0 where
  pub at : ℕ → Session
  pub mail : List Mail
  pub log : List Event

-- ---- calls

-- each names the seat whose session is called; a delivery, the place of a message among those made so far. `asks` is
-- any call that changes nothing: a report, `wants_local`, a field that is shown
pub data Call : Type 0 where
  submits : ℕ → List ℕ → Call
  delivers : ℕ → ℕ → Call
  advances : ℕ → Call
  commits : ℕ → ℕ → Option ℕ → Call
  leaves : ℕ → Call
  pumps : ℕ → Call
  asks : ℕ → Call

-- what a call gives: the next session, the messages it made, what its answer shows
pub record Turn : Type 0 where
  pub session : Session
  pub sends : List Mail
  pub shows : List Event

abbrev pub quiet : Session → Turn
quiet s = record { session = s; sends = []; shows = [] }

unfoldable pub press_shown : ℕ → List ℕ → Submit → List Event
press_shown i bytes (Ok tick) = pressed i tick bytes ∷ []
press_shown i bytes (Err refusal) = []

unfoldable pub submit_turn : ℕ → List ℕ → Answered Submit → Turn
submit_turn i bytes r = record { session = r.session; sends = []; shows = press_shown i bytes r.answer }

unfoldable pub deliver_turn : Session → Option Mail → Turn
deliver_turn s None = quiet s
deliver_turn s (Some m) = quiet (deliver s m.source m.message m.run).session

unfoldable pub step_shown : ℕ → List (List ℕ) → ℕ → Advance → List Event
step_shown i rows digest (Advance'.Step step) = stepped i step.tick rows digest ∷ []
step_shown i rows digest Advance'.Waiting = []
step_shown i rows digest (Advance'.Stalled tick waiting count) = []
step_shown i rows digest (Advance'.Ended o) = []
step_shown i rows digest Advance'.BadState = []

unfoldable pub advance_turn : ℕ → Advanced → Turn
advance_turn i r = record {
  session = r.session;
  sends = [];
  shows = step_shown i r.frames r.session.head.play.digest r.answer;
}

unfoldable pub commit_shown : ℕ → ℕ → Option ℕ → Commit → List Event
commit_shown i tick (Some state) (Ok done) = committed i tick state ∷ []
commit_shown i tick None (Ok done) = []
commit_shown i tick given (Err refusal) = []

unfoldable pub commit_turn : ℕ → ℕ → Option ℕ → Answered Commit → Turn
commit_turn i tick given r = record { session = r.session; sends = []; shows = commit_shown i tick given r.answer }

-- the bytes of an Inputs' frames: the run that a pump hands out is longer, and zero past them
abbrev pub run_on : Body → List ℕ → List ℕ
run_on (Body'.Hello b) run = []
run_on (Body'.Inputs b) run = take (b.count * b.width) run
run_on (Body'.Digest b) run = []
run_on (Body'.Bye b) run = []
run_on (Body'.Other kind) run = []

unfoldable pub mailed : ℕ → Outbound → List ℕ → List Mail
mailed i (Outbound'.Send peer message) run =
    record { source = i; message = message; run = run_on message.body run } ∷ []
mailed i Outbound'.Nothing run = []
mailed i Outbound'.BadState run = []

unfoldable pub pump_turn : ℕ → Pumped → Turn
pump_turn i r = record { session = r.session; sends = mailed i r.answer r.run; shows = [] }

unfoldable pub turn : World → Call → Turn
turn w (submits i bytes) = submit_turn i bytes (submit (w.at i) bytes)
turn w (delivers i j) = deliver_turn (w.at i) (slice_get w.mail j)
turn w (advances i) = advance_turn i (advance (w.at i))
turn w (commits i tick given) = commit_turn i tick given (commit (w.at i) tick given)
turn w (leaves i) = quiet (leave (w.at i)).session
turn w (pumps i) = pump_turn i (pump (w.at i))
turn w (asks i) = quiet (w.at i)

-- ---- runs

unfoldable pub seat_of : Call → ℕ
seat_of (submits i bytes) = i
seat_of (delivers i j) = i
seat_of (advances i) = i
seat_of (commits i tick given) = i
seat_of (leaves i) = i
seat_of (pumps i) = i
seat_of (asks i) = i

unfoldable pub update : (ℕ → Session) → ℕ → Session → ℕ → Session
update f i s j = when eqb j i then s else f j

unfoldable pub after : World → ℕ → Turn → World
after w i t = record { at = update w.at i t.session; mail = t.sends ++ w.mail; log = t.shows ++ w.log }

-- a call on a seat that is none of the circle's does nothing
unfoldable pub play : SessionParams → World → Call → World
play p w c = when ltb (seat_of c) p.count then after w (seat_of c) (turn w c) else w

-- fresh sessions as `open` makes them; the last call stands first in the list
unfoldable pub run : SessionParams → List Call → World
run p [] = record { at = λ i. (opened (seated p i)).session; mail = []; log = [] }
run p (c ∷ cs) = play p (run p cs) c

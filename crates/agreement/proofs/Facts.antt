-- What is kept true: of the log, of a session against the log, of a message, of a turn. Every fact takes the fields
-- that it speaks of, not the session, so that a change of other fields leaves it as it is, by computation. Assumes
-- nothing.
use Prim.Native.Nat.{ℕ, zero, suc, ◌+◌, ◌≤◌, ◌<◌}
use mathlib.Core.Path.{◌≡◌}
use mathlib.Core.Logic.{◌≢◌}
use mathlib.Core.List.{List, [], ◌++◌, Memᴰ}
use lib.ListN.{get_or, length, take}
use Rattle.std.specs.Prelude.{None, Option, Some}
use Rattle.hash.specs.Fnv.{start}
use Rattle.peer.specs.Seats.{seats}
use Rattle.params.specs.declared.SessionParams.{SessionParams}
use Rattle.wire.specs.declared.Body.{Body}
use Rattle.wire.specs.declared.Body.TheVariants as Body'
use Rattle.window.specs.Absorb.{frame_at}
use Rattle.window.specs.declared.Window.{Window}
use Rattle.window.proofs.Laws.{Holds}
use Rattle.window.proofs.Laws as Ring
use Rattle.rows.specs.Rows.{padded, step_digest}
use Rattle.fingerprint.specs.Cells.{own_for, remote_for}
use Rattle.fingerprint.specs.declared.Fingerprint.{Fingerprint}
use Rattle.fingerprint.specs.declared.Fingerprints.{Fingerprints}
use Rattle.fingerprint.proofs.Laws as Prints
use Rattle.session.specs.declared.Outcome.TheVariants.{Desynced}
use Rattle.session.specs.declared.Outstanding.{Outstanding}
use Rattle.session.specs.declared.Outcome.{Outcome}
use Rattle.session.specs.declared.Session.{Session}
use Rattle.agreement.specs.World.{seated, Mail, Event, pressed, stepped, committed, Turn, World}
use Rattle.agreement.specs.Demand.{Pressed, Said, presses, Few, Differ, AgreeAt}

-- the next local tick, and the pending one
abbrev pub next_of : Session → ℕ
next_of s = s.head.play.next_local

abbrev pub pending_of : Session → ℕ
pending_of s = s.head.play.pending

abbrev pub Log : Type 0
Log = List Event

-- the rows of a step are the presses of the circle's seats, padded, and zero for the others
pub record AllPressed (p : SessionParams) (log : Log) (tick : ℕ) (rows : List (List ℕ)) : Type 0 where
  pub size : length rows ≡ seats
  pub each : (k : ℕ) → k < p.count → Pressed log k tick (take p.width (get_or rows k []))
  pub pads : (k : ℕ) → k < p.count → get_or rows k [] ≡ padded (take p.width (get_or rows k []))
  pub none : (k : ℕ) → k < seats → p.count ≤ k → get_or rows k [] ≡ padded []

-- a is the input digest of the presses of the ticks below n
abbrev pub Folded : SessionParams → Log → ℕ → ℕ → Type 0
Folded p log zero a = a ≡ start
Folded p log (suc n) a =
    record {
      before : ℕ;
      rows : List (List ℕ);
      fold : Folded p log n before;
      all : AllPressed p log n rows;
      is : a ≡ step_digest before n p.count p.width rows;
    }

-- ---- the parts of a session

pub record RingFacts (p : SessionParams) (log : Log) (w : Window) : Type 0 where
  pub ok : Ring.Sized w
  pub each : (k tick : ℕ) (v : List ℕ) → k < p.count → Holds w p.width k tick v → Pressed log k tick v

pub record NextFacts (log : Log) (i next : ℕ) : Type 0 where
  pub below : (tick : ℕ) (b : List ℕ) → Pressed log i tick b → tick < next
  pub many : presses log i ≡ next

abbrev pub FoldFacts : SessionParams → Log → ℕ → Option Outstanding → ℕ → Type 0
FoldFacts p log pending None a = Folded p log pending a
FoldFacts p log pending (Some out) a = (out.tick ≡ pending) × Folded p log (suc pending) a

pub record PrintFacts (p : SessionParams) (log : Log) (i : ℕ) (prints : Fingerprints) (owed : Option Fingerprint)
    : Type 0 where
  pub size : Prints.Sized prints
  pub own : (tick : ℕ) (f : Fingerprint) → own_for prints tick ≡ Some f → Said log i tick f.state
  pub other : (k tick : ℕ) (f : Fingerprint) → k < p.count → remote_for prints k tick ≡ Some f
      → Said log k tick f.state
  pub owes : (f : Fingerprint) → owed ≡ Some f → Said log i f.tick f.state

-- a session's own commits are all below its pending tick
abbrev pub SaidFacts : Log → (i pending : ℕ) → Type 0
SaidFacts log i pending = (tick state : ℕ) → Said log i tick state → tick < pending

abbrev pub OutFacts : SessionParams → Log → ℕ → Option Outcome → Type 0
OutFacts p log i o = (tick : ℕ) → o ≡ Some (Desynced tick) → Differ p log i tick

abbrev pub Base : SessionParams → Log → ℕ → Session → Type 0
Base p log i s =
    record {
      par : s.head.params ≡ seated p i;
      ring : RingFacts p log s.window;
      next : NextFacts log i (next_of s);
      fold : FoldFacts p log (pending_of s) s.head.play.step s.head.play.digest;
      prints : PrintFacts p log i s.prints s.head.owed;
      said : SaidFacts log i (pending_of s);
      out : OutFacts p log i s.head.outcome;
    }

abbrev pub Agrees : SessionParams → ℕ → Session → Type 0
Agrees p i s = s.head.outcome ≡ None → (tick : ℕ) → AgreeAt p.count i s.prints tick

-- a session at seat i, against the log
pub record SessOk (p : SessionParams) (log : Log) (i : ℕ) (s : Session) : Type 0 where
  pub base : Base p log i s
  pub agree : Agrees p i s

-- ---- a message: its frames are its sender's presses, its digest is one that its sender committed

abbrev pub BodyOk : Log → (sender : ℕ) → Body → List ℕ → Type 0
BodyOk log k (Body'.Hello b) run = Unit {0}
BodyOk log k (Body'.Inputs b) run = (j : ℕ) → j < b.count → Pressed log k (b.first + j) (frame_at run b.width j)
BodyOk log k (Body'.Digest d) run = Said log k d.tick d.state
BodyOk log k (Body'.Bye b) run = Unit {0}
BodyOk log k (Body'.Other kind) run = Unit {0}

abbrev pub MailOk : Log → Mail → Type 0
MailOk log m = BodyOk log m.message.sender m.message.body m.run

-- ---- a step in the log

abbrev pub EventOk : SessionParams → Log → Event → Type 0
EventOk p log (pressed k tick b) = Unit {0}
EventOk p log (stepped k tick rows a) = AllPressed p log tick rows × Folded p log (suc tick) a
EventOk p log (committed k tick d) = Unit {0}

-- ---- a turn of seat i

-- the second log goes on from the first, with no new press of seat j
pub record Unpressed (j : ℕ) (log longer : Log) : Type 0 where
  pub keep : (e : Event) → Memᴰ e log → Memᴰ e longer
  pub back : (tick : ℕ) (b : List ℕ) → Pressed longer j tick b → Pressed log j tick b
  pub count : presses longer j ≡ presses log j

-- and with no new commit of seat j either
pub record Same (j : ℕ) (log longer : Log) : Type 0 where
  pub unpressed : Unpressed j log longer
  pub unsaid : (tick state : ℕ) → Said longer j tick state → Said log j tick state

-- what a seat shows for a tick it shows once
abbrev pub OnceBy : {T : Type 0} → ((seat tick : ℕ) → T → Event) → Log → Type 0
OnceBy {T} made log = (k tick : ℕ) (b c : T) → Memᴰ (made k tick b) log → Memᴰ (made k tick c) log → b ≡ c

-- one press for a seat and a tick, and one commit
pub record Once (log : Log) : Type 0 where
  pub press : OnceBy pressed log
  pub commit : OnceBy committed log

pub record TurnOk (p : SessionParams) (log : Log) (i : ℕ) (r : Turn) : Type 0 where
  pub session : SessOk p (r.shows ++ log) i r.session
  pub sends : (m : Mail) → Memᴰ m r.sends → MailOk (r.shows ++ log) m
  pub shows : (e : Event) → Memᴰ e r.shows → EventOk p (r.shows ++ log) e
  pub once : Once log → Once (r.shows ++ log)
  pub others : (j : ℕ) → j ≢ i → Same j log (r.shows ++ log)
  pub keep : (e : Event) → Memᴰ e log → Memᴰ e (r.shows ++ log)

abbrev pub TurnGoal : SessionParams → Log → ℕ → Turn → Type 0
TurnGoal p log i r = Few p (r.shows ++ log) → TurnOk p log i r

pub record WorldOk (p : SessionParams) (w : World) : Type 0 where
  pub sessions : (i : ℕ) → i < p.count → SessOk p w.log i (w.at i)
  pub mail : (m : Mail) → Memᴰ m w.mail → MailOk w.log m
  pub steps : (e : Event) → Memᴰ e w.log → EventOk p w.log e
  pub once : Once w.log

-- A session is its head, its window and its prints: small fields, presses, fingerprints. Here are the head as its parts
-- change, and what is said of a session everywhere. Document 01: a session with an outcome is over, and the first
-- outcome stays; it plays once it has started and is not over. Assumes nothing.
use Rattle.std.specs.Prelude.{ℕ, ◌-◌, Bool, true, false, not, ◌&&◌, ltb, Option, None, Some}
use Rattle.logic.specs.Test.{when◌then◌else◌}
use Rattle.logic.specs.Saturating.{most}
use Rattle.hash.specs.Fnv.{start}
use Rattle.peer.specs.Seats.{seats, adding, is_subset}
use Rattle.params.specs.Params.{roster_of}
use Rattle.params.specs.declared.SessionParams.{SessionParams}
use Rattle.window.specs.Window.{fresh_window}
use Rattle.window.specs.declared.Window.{Window}
use Rattle.fingerprint.specs.Cells.{no_prints}
use Rattle.fingerprint.specs.declared.Fingerprints.{Fingerprints}
use Rattle.fingerprint.specs.declared.Fingerprint.{Fingerprint}
use Rattle.stats.specs.Stats.{no_stats}
use Rattle.stats.specs.declared.SessionStats.{SessionStats}
use Rattle.session.specs.declared.Outcome.{Outcome}
use Rattle.session.specs.declared.Emit.TheVariants.{Hello}
use Rattle.session.specs.declared.Play.{Play}
use Rattle.session.specs.declared.Marks.{Marks}
use Rattle.session.specs.declared.Pass.{Pass}
use Rattle.session.specs.declared.Head.{Head}
use Rattle.session.specs.declared.Session.{Session}
use Rattle.session.specs.declared.Answered.{Answered}

-- ---- a session of its parts

abbrev pub session_of : Head → Window → Fingerprints → Session
session_of h w p = record { head = h; window = w; prints = p }

abbrev pub with_head : Session → Head → Session
with_head s h = session_of h s.window s.prints

-- ---- with the answer of a call beside it: of a call that goes by the head alone, and of any

pub record HeadAnswered (A : Type 0) : Type 0 where
  pub head : Head
  pub answer : A

abbrev pub head_with : {A : Type 0} → Head → A → HeadAnswered A
head_with h answer = record { head = h; answer = answer }

abbrev pub session_with : {A : Type 0} → Session → A → Answered A
session_with s answer = record { session = s; answer = answer }

-- ---- at the start

-- no Hello in but its own, nothing committed, and the pump about to say Hello
unfoldable pub fresh_head : SessionParams → Head
fresh_head p = record {
  params = p;
  play = record { pending = 0; next_local = 0; digest = start; step = None; stalled = most };
  marks = record { hellos = adding seats 0 p.local; playing = 0; started = false };
  pass = record { kind = Hello; place = 0 };
  owed = None;
  outcome = None;
  stats = no_stats;
}

-- and the ring empty
unfoldable pub fresh : SessionParams → Session
fresh p = session_of (fresh_head p) fresh_window no_prints

-- ---- a head with one of its parts changed: the parts are written out here and nowhere else

abbrev pub with_play : Head → Play → Head
with_play h x = record {
  params = h.params;
  play = x;
  marks = h.marks;
  pass = h.pass;
  owed = h.owed;
  outcome = h.outcome;
  stats = h.stats;
}

abbrev pub with_marks : Head → Marks → Head
with_marks h x = record {
  params = h.params;
  play = h.play;
  marks = x;
  pass = h.pass;
  owed = h.owed;
  outcome = h.outcome;
  stats = h.stats;
}

abbrev pub with_pass : Head → Pass → Head
with_pass h x = record {
  params = h.params;
  play = h.play;
  marks = h.marks;
  pass = x;
  owed = h.owed;
  outcome = h.outcome;
  stats = h.stats;
}

abbrev pub with_owed : Head → Option Fingerprint → Head
with_owed h x = record {
  params = h.params;
  play = h.play;
  marks = h.marks;
  pass = h.pass;
  owed = x;
  outcome = h.outcome;
  stats = h.stats;
}

abbrev pub with_outcome : Head → Option Outcome → Head
with_outcome h x = record {
  params = h.params;
  play = h.play;
  marks = h.marks;
  pass = h.pass;
  owed = h.owed;
  outcome = x;
  stats = h.stats;
}

abbrev pub with_stats : Head → SessionStats → Head
with_stats h x = record {
  params = h.params;
  play = h.play;
  marks = h.marks;
  pass = h.pass;
  owed = h.owed;
  outcome = h.outcome;
  stats = x;
}

-- ---- what is asked of a head

abbrev pub is_over : Option Outcome → Bool
is_over None = false
is_over (Some o) = true

-- it has started, and is not over
unfoldable pub is_playing : Head → Bool
is_playing h = h.marks.started && not (is_over h.outcome)

-- every seat of the roster is among these
unfoldable pub every_seat : Head → ℕ → Bool
every_seat h set = is_subset seats (roster_of h.params) set

-- the last tick committed: pending minus one, or 0 at pending 0
abbrev pub last_committed : Head → ℕ
last_committed h = h.play.pending - 1

-- ---- what several calls do

-- the first outcome stays
abbrev pub over : Option Outcome → Outcome → Option Outcome
over None o = Some o
over (Some p) o = Some p

unfoldable pub ended : Head → Outcome → Head
ended h o = with_outcome h (over h.outcome o)

-- a session starts playing once every seat's Hello is in and the next local tick exceeds the delay
unfoldable pub starts : SessionParams → (hellos next : ℕ) → Bool
starts p hellos next = is_subset seats (roster_of p) hellos && ltb p.delay next

unfoldable pub started : Head → Head
started h =
    when starts h.params h.marks.hellos h.play.next_local
    then with_marks h (record { hellos = h.marks.hellos; playing = h.marks.playing; started = true })
    else h

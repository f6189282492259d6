-- Document 01, the order of a delivery's answers and what each changes: 20 first; then a standing outcome, 1, even for
-- a malformed record, with nothing changed; then 21 to 31 in the table's order. Assumes nothing.
use Rattle.std.specs.Prelude.{ℕ, Bool, not, List, Option, None, Some, Result, Ok, Err, eqb}
use Rattle.logic.specs.Test.{when◌then◌else◌}
use Rattle.peer.specs.Seats.{seats, has, adding}
use Rattle.params.specs.Params.{bad_state, roster_of, remotes_of, agreement_of}
use Rattle.wire.specs.Wire.{form_of}
use Rattle.wire.specs.declared.WireError.{WireError}
use Rattle.wire.specs.declared.Body.{Body}
use Rattle.wire.specs.declared.Body.TheVariants as Body'
use Rattle.wire.specs.declared.HelloBody.{HelloBody}
use Rattle.wire.specs.declared.InputsBody.{InputsBody}
use Rattle.wire.specs.declared.DigestBody.{DigestBody}
use Rattle.wire.specs.declared.Message.{Message}
use Rattle.window.specs.Absorb.{Absorbed, absorb_inputs}
use Rattle.window.specs.declared.Note.{Note}
use Rattle.window.specs.declared.Note.TheVariants as Note'
use Rattle.fingerprint.specs.Cells.{with_remote}
use Rattle.fingerprint.specs.Judging.{parted, arrival}
use Rattle.fingerprint.specs.declared.Fingerprint.{Fingerprint}
use Rattle.fingerprint.specs.declared.Arrival.{Arrival}
use Rattle.fingerprint.specs.declared.Arrival.TheVariants.{New, Repeated, Contradicted}
use Rattle.stats.specs.Stats.{counted_of, repeated_of}
use Rattle.session.specs.Session.{session_of, with_head, HeadAnswered, head_with, session_with, with_marks, with_stats}
use Rattle.session.specs.Session.{started, ended}
use Rattle.session.specs.declared.Outcome.{Outcome}
use Rattle.session.specs.declared.Outcome.TheVariants.{Desynced, PeerLeft}
use Rattle.session.specs.declared.Head.{Head}
use Rattle.session.specs.declared.Session.{Session}
use Rattle.session.specs.declared.Answered.{Answered}
use Rattle.deliver.specs.declared.Refusal.{Refusal}
use Rattle.deliver.specs.declared.Refusal.TheVariants.{Malformed, WrongSession, SenderNotSource, FromSelf}
use Rattle.deliver.specs.declared.Refusal.TheVariants.{NotInRoster, Disagreement, OutOfWindow, Contradiction}
use Rattle.deliver.specs.declared.Refusal.TheVariants.{WrongWidth, DigestContradiction, NotSessionTraffic}
use Rattle.deliver.specs.declared.Delivery.{Delivery}
use Rattle.deliver.specs.declared.Delivery.TheVariants.{Accepted, Ended, BadState, Refused}
use Rattle.deliver.specs.Numbers.{refusal_no}

-- nothing but the head changes
abbrev pub heard : Session → HeadAnswered Delivery → Answered Delivery
heard s r = session_with (with_head s r.head) r.answer

-- ---- what changes the head alone

-- a refusal changes the counters alone
unfoldable pub refused : Head → Refusal → HeadAnswered Delivery
refused h r = head_with (with_stats h (counted_of h.stats (refusal_no r))) (Refused r)

-- the delivery that ends a session answers with its outcome
unfoldable pub end_with : Head → Outcome → HeadAnswered Delivery
end_with h o = head_with (ended h o) (Ended o)

-- the sender's Hello is in
unfoldable pub greeted : Head → ℕ → Head
greeted h sender = with_marks h (record {
  hellos = adding seats h.marks.hellos sender;
  playing = h.marks.playing;
  started = h.marks.started;
})

-- 26 another agreement number; else the sender's Hello is in
unfoldable pub accept_hello : Head → ℕ → HelloBody → HeadAnswered Delivery
accept_hello h sender b =
    when eqb b.agreement (agreement_of h.params)
    then head_with (started (greeted h sender)) Accepted
    else refused h (Disagreement b.agreement (agreement_of h.params))

-- the sender's playing mark
unfoldable pub marked : Head → ℕ → Head
marked h sender = with_marks h (record {
  hellos = h.marks.hellos;
  playing = adding seats h.marks.playing sender;
  started = h.marks.started;
})

-- only the last note counts: with nothing written it is the answer; otherwise the answer is 0 and the counters still
-- rise
unfoldable pub note_answer : HeadAnswered Delivery → Bool → HeadAnswered Delivery
note_answer r wrote = when wrote then head_with r.head Accepted else r

abbrev pub refusal_of : Note → Refusal
refusal_of (Note'.OutOfWindow tick pending) = OutOfWindow tick pending
refusal_of (Note'.Contradiction peer tick) = Contradiction peer tick

unfoldable pub noted : Head → Option Note → Bool → HeadAnswered Delivery
noted h None wrote = head_with h Accepted
noted h (Some note) wrote = note_answer (refused h (refusal_of note)) wrote

abbrev pub refuse : Session → Refusal → Answered Delivery
refuse s r = heard s (refused s.head r)

-- ---- Inputs

-- `frames_repeated` is as the frames left it, and the last note is answered
unfoldable pub frames_noted : Head → (repeated : ℕ) → Option Note → Bool → HeadAnswered Delivery
frames_noted h repeated note wrote = noted (with_stats h (repeated_of h.stats repeated)) note wrote

unfoldable pub frames_taken : Session → Absorbed → Answered Delivery
frames_taken s a =
    let r = frames_noted s.head a.repeated a.note a.wrote in
    session_with (session_of r.head a.window s.prints) r.answer

-- 29 comes before any frame
unfoldable pub absorb : Session → ℕ → InputsBody → List ℕ → Answered Delivery
absorb s sender i run =
    when eqb i.width s.head.params.width
    then
    frames_taken s
    (absorb_inputs s.window s.head.stats.frames_repeated s.head.play.pending sender i run)
    else refuse s (WrongWidth i.width s.head.params.width)

-- ---- Digest

abbrev pub print_of : DigestBody → Fingerprint
print_of d = record { tick = d.tick; state = d.state; input = d.input }

-- judged upon a newly stored Digest: a difference ends the session
unfoldable pub judged : Session → ℕ → Answered Delivery
judged s tick =
    when parted s.prints (remotes_of s.head.params) tick
    then heard s (end_with s.head (Desynced tick))
    else session_with s Accepted

abbrev pub with_print : Session → ℕ → Fingerprint → Session
with_print s sender f = session_of s.head s.window (with_remote s.prints sender f)

-- 30 the cell holds this tick with other values; an equal repeat is accepted unjudged; any other goes in its sender's
-- cell
unfoldable pub hear_by : Session → ℕ → DigestBody → Arrival → Answered Delivery
hear_by s sender d Contradicted = refuse s (DigestContradiction sender d.tick)
hear_by s sender d Repeated = session_with s Accepted
hear_by s sender d New = judged (with_print s sender (print_of d)) d.tick

unfoldable pub hear : Session → ℕ → DigestBody → Answered Delivery
hear s sender d = hear_by s sender d (arrival s.prints sender (print_of d))

-- ---- each kind

-- Inputs and Digest set the sender's playing mark, also when they are then refused; a Bye ends the session; 31 the
-- others
unfoldable pub accept : Session → ℕ → Body → List ℕ → Answered Delivery
accept s sender (Body'.Hello b) run = heard s (accept_hello s.head sender b)
accept s sender (Body'.Inputs i) run = absorb (with_head s (marked s.head sender)) sender i run
accept s sender (Body'.Digest d) run = hear (with_head s (marked s.head sender)) sender d
accept s sender (Body'.Bye b) run = heard s (end_with s.head (PeerLeft sender b.tick))
accept s sender (Body'.Other kind) run = refuse s (NotSessionTraffic kind)

-- ---- the header, and the order

-- 22 to 25
unfoldable pub from_header : Session → ℕ → Message → List ℕ → Answered Delivery
from_header s source m run =
    when not (eqb m.session s.head.params.session) then refuse s (WrongSession m.session)
    else when not (eqb m.sender source) then refuse s (SenderNotSource m.sender source)
    else when eqb m.sender s.head.params.local then refuse s FromSelf
    else when not (has (roster_of s.head.params) m.sender) then refuse s (NotInRoster m.sender)
    else accept s m.sender m.body run

-- 21
unfoldable pub deliver_form : Session → ℕ → Message → List ℕ → Result (Unit {0}) WireError → Answered Delivery
deliver_form s source m run (Err e) = refuse s (Malformed e)
deliver_form s source m run (Ok good) = from_header s source m run

unfoldable pub deliver_by : Session → ℕ → Message → List ℕ → Option Outcome → Answered Delivery
deliver_by s source m run (Some o) = session_with s (Ended o)
deliver_by s source m run None = deliver_form s source m run (form_of m run)

unfoldable pub deliver : Session → ℕ → Message → List ℕ → Answered Delivery
deliver s source m run =
    when bad_state s.head.params then session_with s BadState else deliver_by s source m run s.head.outcome

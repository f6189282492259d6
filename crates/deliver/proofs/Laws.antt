-- What a reader of the rules wants to see said of a delivery: 20 and an ended session change nothing at all, a refusal
-- changes nothing but the counters and the sender's playing mark, parameters, ticks and the first outcome stay, no
-- counter falls, and a frame that is held is never overwritten. Assumes nothing.
use Prim.Native.Nat.{ℕ, ◌+◌, ◌≤◌, ◌<◌}
use mathlib.Core.Path.{◌≡◌, refl, sym, ap, ◌∙◌}
use mathlib.Core.List.{List}
use mathlib.Core.Bool.{true, false, not, true≢false}
use native.Mathlib.Omega.{arith}
use Rattle.std.specs.Prelude.{Err, None, Ok, Option, Result, Some}
use Rattle.logic.specs.Saturating.{most}
use borrow.Author.Tests.{eqb-true, not-false}
use Rattle.logic.proofs.Cases.{by_test, case_lt, if_true, if_false}
use Rattle.peer.specs.Seats.{seats, has, first_seats}
use Rattle.peer.specs.Cells.{window}
use Rattle.peer.proofs.Laws.{has_none, set_of_lt}
use Rattle.params.specs.Params.{max_width, bad_state, roster_of}
use Rattle.params.specs.declared.SessionParams.{SessionParams}
use Rattle.params.proofs.Laws.{Sound}
use Rattle.wire.specs.Wire.{form_of}
use Rattle.wire.specs.declared.WireError.{WireError}
use Rattle.wire.specs.declared.Body.{Body}
use Rattle.wire.specs.declared.Body.TheVariants as Body'
use Rattle.wire.specs.declared.HelloBody.{HelloBody}
use Rattle.wire.specs.declared.InputsBody.{InputsBody}
use Rattle.wire.specs.declared.DigestBody.{DigestBody}
use Rattle.wire.specs.declared.Message.{Message}
use Rattle.window.specs.Absorb.{Absorbed, untouched, absorb_inputs}
use Rattle.window.specs.declared.Note.{Note}
use Rattle.window.specs.declared.Note.TheVariants as Note'
use Rattle.window.specs.declared.Window.{Window}
use Rattle.window.proofs.Absorbing.{unwritten, repeats_rise, repeats_fit, Kept, first_write_wins}
use Rattle.fingerprint.specs.declared.Arrival.{Arrival}
use Rattle.fingerprint.specs.declared.Arrival.TheVariants.{New, Repeated, Contradicted}
use Rattle.stats.specs.Stats.{counted_of, repeated_of}
use Rattle.stats.specs.declared.SessionStats.{SessionStats}
use Rattle.stats.proofs.Laws.{Each, counted_rises}
use Rattle.session.specs.Session.{session_of, with_head, with_marks, with_stats, started, ended}
use Rattle.session.specs.Session.{HeadAnswered, session_with}
use Rattle.session.specs.declared.Outcome.{Outcome}
use Rattle.session.specs.declared.Head.{Head}
use Rattle.session.specs.declared.Session.{Session}
use Rattle.session.specs.declared.Answered.{Answered}
use Rattle.deliver.specs.declared.Refusal.{Refusal}
use Rattle.deliver.specs.declared.Delivery.{Delivery}
use Rattle.deliver.specs.declared.Delivery.TheVariants.{Accepted, Ended, BadState, Refused}
use Rattle.deliver.specs.Numbers.{refusal_no}
use Rattle.deliver.specs.Deliver.{heard, refused, end_with, greeted, accept_hello, marked, note_answer}
use Rattle.deliver.specs.Deliver.{noted, refuse, frames_noted, frames_taken, absorb, judged, hear_by, hear}
use Rattle.deliver.specs.Deliver.{accept, from_header, deliver_form, deliver_by, deliver}

-- ---- 20 and an ended session: nothing changes

pub deliver_bad : (s : Session) (source : ℕ) (m : Message) (run : List ℕ) → bad_state s.head.params ≡ true
    → deliver s source m run ≡ session_with s BadState
unfolding deliver
deliver_bad s source m run bad = if_true _ _ bad

pub deliver-ended : (s : Session) (source : ℕ) (m : Message) (run : List ℕ) (o : Outcome)
    → bad_state s.head.params ≡ false → s.head.outcome ≡ Some o → deliver s source m run ≡ session_with s (Ended o)
unfolding deliver deliver_by
deliver-ended s source m run o good e = if_false _ _ good ∙ ap (deliver_by s source m run) e

-- ---- a refusal

-- each counter is a u64
abbrev pub Fit : SessionStats → Type 0
Fit c = Each (λ n _. n ≤ most) c c

-- what is left of a head: another playing mark and other counters, and nothing else
abbrev with_mark : Head → ℕ → Head
with_mark h x = with_marks h (record { hellos = h.marks.hellos; playing = x; started = h.marks.started })

pub record OnlyMarks (s t : Session) : Type 0 where
  pub playing : ℕ
  pub stats : SessionStats
  pub is : t ≡ with_head s (with_stats (with_mark s.head playing) stats)

-- the window after a delivery: as it was, or with one message's frames of the agreed width taken
pub data WindowOf (s : Session) (w : Window) : Type 0 where
  same : w ≡ s.window → WindowOf s w
  took : (sender : ℕ) (i : InputsBody) (run : List ℕ) → sender < seats → i.width ≡ s.head.params.width
      → w ≡ (absorb_inputs s.window s.head.stats.frames_repeated s.head.play.pending sender i run).window
      → WindowOf s w

-- what no delivery changes of a head: the parameters, and how far the player is
pub record Keeps (h k : Head) : Type 0 where
  pub params : k.params ≡ h.params
  pub play : k.play ≡ h.play

pub record OfDelivery (s : Session) (r : Answered Delivery) : Type 0 where
  -- 21 to 31 change the marks and the counters alone
  pub refused : (x : Refusal) → r.answer ≡ Refused x → OnlyMarks s r.session
  -- no counter falls
  pub rises : Each ◌≤◌ s.head.stats r.session.head.stats
  pub window : WindowOf s r.session.window
  pub keeps : Keeps s.head r.session.head

abbrev rises_not : (c : SessionStats) → Each ◌≤◌ c c
rises_not c = record {
  refused = omega arith;
  repeated = omega arith;
  contradicted = omega arith;
  beyond = omega arith;
  digests = omega arith;
  stalls = omega arith;
}

rises_then : {a b c : SessionStats} → Each ◌≤◌ a b → Each ◌≤◌ b c → Each ◌≤◌ a c
rises_then {a} {b} {c} f g = record {
  refused = omega arith;
  repeated = omega arith;
  contradicted = omega arith;
  beyond = omega arith;
  digests = omega arith;
  stalls = omega arith;
}

-- a session with the same counters, the same window and what no delivery changes
record Calm (s t : Session) : Type 0 where
  stats : t.head.stats ≡ s.head.stats
  window : t.window ≡ s.window
  keeps : Keeps s.head t.head

unmoved : {s : Session} → Calm s s
unmoved = record { stats = refl; window = refl; keeps = record { params = refl; play = refl } }

-- an answer over it that is no refusal
calm : {s : Session} (t : Session) (a : Delivery) → ((x : Refusal) → a ≡ Refused x → ⊥) → Calm s t
    → OfDelivery s (session_with t a)
calm {s} t a n c = record {
  refused = λ x q. absurd (n x q);
  rises = rw c.stats (rises_not s.head.stats);
  window = same c.window;
  keeps = c.keeps;
}

-- ending and starting a session leave all that
ended_calm : (s t : Session) (o : Outcome) → Calm s t → Calm s (with_head t (ended t.head o))
unfolding ended
ended_calm s t o c = record {
  stats = c.stats;
  window = c.window;
  keeps = record { params = c.keeps.params; play = c.keeps.play };
}

started_calm : (s : Session) (h : Head) → Calm s (with_head s h) → Calm s (with_head s (started h))
unfolding started
started_calm s h c =
    by_test (λ (k : Head). Calm s (with_head s k))
    (λ _. record {
      stats = c.stats;
      window = refl;
      keeps = record { params = c.keeps.params; play = c.keeps.play };
    })
    (λ _. c)

not_accepted : (x : Refusal) → Accepted ≡ Refused x → ⊥
not_accepted x e = let z : ◌≡◌ {A = ℕ} 0 1 = cc in omega arith

not-ended : (o : Outcome) (x : Refusal) → Ended o ≡ Refused x → ⊥
not-ended o x e = let z : ◌≡◌ {A = ℕ} 0 1 = cc in omega arith

not_bad : (x : Refusal) → BadState ≡ Refused x → ⊥
not_bad x e = let z : ◌≡◌ {A = ℕ} 0 1 = cc in omega arith

-- a refusal over a head that differs in the mark and the counters alone
refuse_of : {s : Session} (playing : ℕ) (c : SessionStats) (x : Refusal) → Each ◌≤◌ s.head.stats c → Fit c
    → OfDelivery s (heard s (refused (with_stats (with_mark s.head playing) c) x))
unfolding refused
refuse_of playing c x f fit = record {
  refused = λ _ _. record { playing = playing; stats = counted_of c (refusal_no x); is = refl };
  rises = rises_then f (counted_rises c (refusal_no x) fit);
  window = same refl;
  keeps = record { params = refl; play = refl };
}

module _ (s : Session) (fit : Fit s.head.stats) where
  plain_refusal : (x : Refusal) → OfDelivery s (refuse s x)
  plain_refusal x = refuse_of s.head.marks.playing s.head.stats x (rises_not s.head.stats) fit

  -- a session like s ends
  end_of : (t : Session) (o : Outcome) → Calm s t → OfDelivery s (heard t (end_with t.head o))
  unfolding end_with
  end_of t o c = calm _ (Ended o) (not-ended o) (ended_calm s t o c)

  hello_of_lem : (sender : ℕ) (h : HelloBody) → OfDelivery s (heard s (accept_hello s.head sender h))
  unfolding accept_hello greeted
  hello_of_lem sender h =
      by_test (λ (r : HeadAnswered Delivery). OfDelivery s (heard s r))
      (λ _. calm _ Accepted not_accepted
      (started_calm s _ record { stats = refl; window = refl; keeps = record { params = refl; play = refl } }))
      (λ _. plain_refusal _)

-- ---- frames

-- another count of repeated frames leaves what holds of each other counter
with_repeated : {R : ℕ → ℕ → Type 0} {c d : SessionStats} {m n : ℕ} → Each R c d → R m n
    → Each R (repeated_of c m) (repeated_of d n)
unfolding repeated_of
with_repeated f h = record {
  refused = f.refused;
  repeated = h;
  contradicted = f.contradicted;
  beyond = f.beyond;
  digests = f.digests;
  stalls = f.stalls;
}

repeated_rises : (c : SessionStats) (n : ℕ) → c.frames_repeated ≤ n → Each ◌≤◌ c (repeated_of c n)
unfolding repeated_of
repeated_rises c n h = with_repeated (rises_not c) h

repeated_fits : (c : SessionStats) (n : ℕ) → n ≤ most → Fit c → Fit (repeated_of c n)
repeated_fits c n h f = with_repeated f h

module _ (s : Session) (fit : Fit s.head.stats) (sender : ℕ) where
  -- s with the sender marked
  abbrev seen : Session
  seen = with_head s (marked s.head sender)

  marked_refusal : (x : Refusal) → OfDelivery s (refuse seen x)
  unfolding marked
  marked_refusal x = refuse_of _ s.head.stats x (rises_not s.head.stats) fit

  -- the session with a message's frames taken, and what a note makes of it
  module _ (a : Absorbed) (rises : s.head.stats.frames_repeated ≤ a.repeated) (fits : a.repeated ≤ most)
      (unwritten : a.wrote ≡ false → a.window ≡ s.window) (window : WindowOf s a.window) where
    abbrev taken : Head
    taken = with_stats (marked s.head sender) (repeated_of s.head.stats a.repeated)

    -- a head beside the frames' window
    abbrev beside : HeadAnswered Delivery → Answered Delivery
    beside r = session_with (session_of r.head a.window s.prints) r.answer

    unwritten_refusal : (x : Refusal) → a.wrote ≡ false → OfDelivery s (beside (refused taken x))
    unfolding marked
    unwritten_refusal x e =
        rw (unwritten e) (refuse_of _ (repeated_of s.head.stats a.repeated) x
        (repeated_rises s.head.stats a.repeated rises) (repeated_fits s.head.stats a.repeated fits fit))

    refuse_rises : (x : Refusal) → Each ◌≤◌ s.head.stats (refused taken x).head.stats
    unfolding refused
    refuse_rises x =
        rises_then (repeated_rises s.head.stats a.repeated rises)
        (counted_rises (repeated_of s.head.stats a.repeated) (refusal_no x)
        (repeated_fits s.head.stats a.repeated fits fit))

    refuse_keeps : (x : Refusal) → Keeps s.head (refused taken x).head
    unfolding refused marked
    refuse_keeps x = record { params = refl; play = refl }

    noted_refusal : (x : Refusal) → OfDelivery s (beside (note_answer (refused taken x) a.wrote))
    unfolding note_answer
    noted_refusal x =
        by_test (λ (r : HeadAnswered Delivery). OfDelivery s (beside r))
        (λ _. record {
          refused = λ y q. absurd (not_accepted y q);
          rises = refuse_rises x;
          window = window;
          keeps = refuse_keeps x;
        })
        (unwritten_refusal x)

    noted_of : (note : Option Note) → OfDelivery s (beside (noted taken note a.wrote))
    unfolding noted marked
    noted_of None = record {
      refused = λ x q. absurd (not_accepted x q);
      rises = repeated_rises s.head.stats a.repeated rises;
      window = window;
      keeps = record { params = refl; play = refl };
    }
    noted_of (Some (Note'.OutOfWindow tick pending)) = noted_refusal _
    noted_of (Some (Note'.Contradiction peer tick)) = noted_refusal _

  inputs_of_lem : (i : InputsBody) (run : List ℕ) → sender < seats → OfDelivery s (absorb seen sender i run)
  unfolding absorb frames_taken frames_noted marked
  inputs_of_lem i run low =
      let pending = s.head.play.pending in
      let a = absorb_inputs s.window s.head.stats.frames_repeated pending sender i run in
      by_test (OfDelivery s)
      (λ agreed. noted_of a (repeats_rise s.window _ pending sender i run fit.repeated)
      (repeats_fit s.window _ pending sender i run fit.repeated)
      (unwritten s.window _ pending sender i run fit.repeated)
      (took sender i run low (eqb-true i.width s.head.params.width agreed) refl) a.note)
      (λ _. marked_refusal _)

  -- ---- a Digest

  judged_of : (t : Session) (tick : ℕ) → Calm s t → OfDelivery s (judged t tick)
  unfolding judged
  judged_of t tick c =
      by_test (OfDelivery s) (λ _. end_of s fit t _ c) (λ _. calm t Accepted not_accepted c)

  hear_by_of : (d : DigestBody) (a : Arrival) → OfDelivery s (hear_by seen sender d a)
  unfolding hear_by marked
  hear_by_of d Contradicted = marked_refusal _
  hear_by_of d Repeated =
      calm seen Accepted not_accepted
      record { stats = refl; window = refl; keeps = record { params = refl; play = refl } }
  hear_by_of d New =
      judged_of _ d.tick record { stats = refl; window = refl; keeps = record { params = refl; play = refl } }

  digest_of_lem : (d : DigestBody) → OfDelivery s (hear seen sender d)
  unfolding hear
  digest_of_lem d = hear_by_of d _

  -- ---- every kind

  accept_of : (b : Body) (run : List ℕ) → sender < seats → OfDelivery s (accept s sender b run)
  unfolding accept
  accept_of (Body'.Hello h) run low = hello_of_lem s fit sender h
  accept_of (Body'.Inputs i) run low = inputs_of_lem i run low
  accept_of (Body'.Digest d) run low = digest_of_lem d
  accept_of (Body'.Bye b) run low = end_of s fit s _ unmoved
  accept_of (Body'.Other kind) run low = plain_refusal s fit _

-- who is in the roster is a seat
roster_low : (p : SessionParams) (k : ℕ) → not (has (roster_of p) k) ≡ false → k < seats
unfolding roster_of first_seats
roster_low p k e =
    case_lt k seats (λ l. l)
    (λ l. absurd
    (true≢false (sym (not-false (has (roster_of p) k) e) ∙ has_none seats (roster_of p) k (set_of_lt seats _) l)))

inputs_keep : (pending r u : ℕ) (frame : List ℕ) → r < seats → pending ≤ u → u < pending + window
    → (w : Window) (repeated sender : ℕ) (i : InputsBody) (run : List ℕ) (n : ℕ)
    → i.width ≡ n → n ≤ max_width → sender < seats → Kept pending n r u frame w
    → Kept pending n r u frame (absorb_inputs w repeated pending sender i run).window
unfolding absorb_inputs
inputs_keep pending r u frame low least greatest w repeated sender i run n e narrow fits k =
    rw e (first_write_wins pending n r u frame low narrow least greatest (untouched w repeated) sender
    i.first run i.count fits k)

module _ (s : Session) (fit : Fit s.head.stats) (source : ℕ) (m : Message) (run : List ℕ) where
  header_of : OfDelivery s (from_header s source m run)
  unfolding from_header
  header_of =
      by_test (OfDelivery s) (λ _. plain_refusal s fit _)
      (λ _. by_test (OfDelivery s) (λ _. plain_refusal s fit _)
      (λ _. by_test (OfDelivery s) (λ _. plain_refusal s fit _)
      (λ _. by_test (OfDelivery s) (λ _. plain_refusal s fit _)
      (λ inside. accept_of s fit m.sender m.body run (roster_low s.head.params m.sender inside)))))

  form_of_lem : (f : Result (Unit {0}) WireError) → OfDelivery s (deliver_form s source m run f)
  unfolding deliver_form
  form_of_lem (Err e) = plain_refusal s fit _
  form_of_lem (Ok good) = header_of

  standing_of : (o : Option Outcome) → OfDelivery s (deliver_by s source m run o)
  unfolding deliver_by
  standing_of (Some o) = calm s (Ended o) (not-ended o) unmoved
  standing_of None = form_of_lem (form_of m run)

  pub of_delivery : OfDelivery s (deliver s source m run)
  unfolding deliver
  of_delivery =
      by_test (OfDelivery s) (λ _. calm s BadState not_bad unmoved)
      (λ _. standing_of s.head.outcome)

  -- ---- a frame that is held at or above pending is never overwritten

  pub held_stays : Sound s.head.params → (r u : ℕ) (frame : List ℕ) → r < seats
      → s.head.play.pending ≤ u → u < s.head.play.pending + window
      → Kept s.head.play.pending s.head.params.width r u frame s.window
      → Kept s.head.play.pending s.head.params.width r u frame (deliver s source m run).session.window
  held_stays ok r u frame low least greatest k = from (deliver s source m run).session.window of_delivery.window
    where
      from : (w : Window) → WindowOf s w → Kept s.head.play.pending s.head.params.width r u frame w
      from w (same e) = rw e k
      from w (took sender i frames fits width e) = rw e (kept sender i frames fits width)
        where
          kept : (sender : ℕ) (i : InputsBody) (frames : List ℕ) → sender < seats → i.width ≡ s.head.params.width
              → Kept s.head.play.pending s.head.params.width r u frame
              (absorb_inputs s.window s.head.stats.frames_repeated s.head.play.pending
              sender i frames).window
          kept sender i frames fits width =
              inputs_keep s.head.play.pending r u frame low least greatest s.window
              s.head.stats.frames_repeated sender i frames s.head.params.width width
              ok.width.greatest fits k

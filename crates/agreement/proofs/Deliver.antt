-- A delivery keeps the facts, where the message is one of which the facts hold.
-- Assumes nothing.
use Prim.Native.Nat.{ℕ, zero, suc, ◌+◌, ◌*◌, ◌≤◌, ◌<◌}
use mathlib.Core.Path.{◌≡◌, refl, sym, ap, subst, ◌∙◌}
use mathlib.Core.Logic.{◌≢◌}
use mathlib.Core.Bool.{Bool}
use mathlib.Core.List.{List}
use native.Mathlib.Nat.{mul-le-mul_right, suc-mul}
use native.Mathlib.Omega.{arith}
use lib.ListN.{length, drop, length-drop}
use lib.Seq.{length-take-le}
use borrow.Author.Tests.{eqb-true, eqb-false, ltb-true, not-false}
use Rattle.std.specs.Prelude.{Err, None, Ok, Option, Result, Some}
use Rattle.logic.specs.Saturating.{most, sum}
use Rattle.logic.proofs.Cases.{by_test}
use Rattle.logic.proofs.Sums.{sum_fits}
use Rattle.peer.specs.Seats.{seats}
use Rattle.params.specs.Params.{max_width}
use Rattle.params.specs.declared.SessionParams.{SessionParams}
use Rattle.params.proofs.Laws.{Sound, sound, has_roster}
use Rattle.wire.specs.declared.Body.{Body}
use Rattle.wire.specs.declared.Body.TheVariants as Body'
use Rattle.wire.specs.declared.InputsBody.{InputsBody}
use Rattle.wire.specs.declared.DigestBody.{DigestBody}
use Rattle.wire.specs.declared.HelloBody.{HelloBody}
use Rattle.wire.specs.declared.Message.{Message}
use Rattle.wire.specs.declared.WireError.{WireError}
use Rattle.wire.specs.Wire.{body_form, form_of}
use Rattle.wire.proofs.Laws.{good_header, good_inputs}
use Rattle.window.specs.Absorb.{Absorbed, absorb_one, frame_at, untouched, absorb_first, absorb_inputs}
use Rattle.window.specs.declared.Note.{Note}
use Rattle.window.specs.declared.Note.TheVariants as Note'
use Rattle.window.proofs.Absorbing.{absorb_cases}
use Rattle.fingerprint.specs.Cells.{own_for, remote_for}
use Rattle.fingerprint.specs.declared.Fingerprint.{Fingerprint}
use Rattle.fingerprint.specs.declared.Arrival.{Arrival}
use Rattle.fingerprint.specs.declared.Arrival.TheVariants.{New, Repeated, Contradicted}
use Rattle.fingerprint.proofs.Laws.{Stored, fresh, older, with_remote_sized, remote_for_stored, own_for-remote}
use Rattle.session.specs.declared.Outcome.TheVariants.{PeerLeft}
use Rattle.session.specs.declared.Outcome.{Outcome}
use Rattle.session.specs.declared.Session.{Session}
use Rattle.session.specs.declared.Answered.{Answered}
use Rattle.session.specs.Session.{with_head, HeadAnswered}
use Rattle.deliver.specs.declared.Refusal.{Refusal}
use Rattle.deliver.specs.declared.Delivery.{Delivery}
use Rattle.deliver.specs.Deliver.{refused, end_with, greeted, accept_hello, marked, note_answer, frames_noted}
use Rattle.deliver.specs.Deliver.{frames_taken, absorb, print_of, judged, with_print, hear_by, hear, accept}
use Rattle.deliver.specs.Deliver.{from_header, deliver_form, deliver_by, deliver}
use Rattle.deliver.specs.Deliver as Calls
use Rattle.agreement.specs.World.{seated}
use Rattle.agreement.specs.Demand.{Valid, Pressed, Said, AgreeAt}
use Rattle.agreement.proofs.Facts.{pending_of, Log, RingFacts, Base, SessOk, BodyOk}
use Rattle.agreement.proofs.Submit.{start_ok, write_ok}
use Rattle.agreement.proofs.Judge.{ended_ok, judged_ok, parted_ok}

-- ---- what changes no fact

refused_ok : {p : SessionParams} {log : Log} {i : ℕ} (s : Session) (r : Refusal) → SessOk p log i s
    → SessOk p log i (with_head s (refused s.head r).head)
unfolding refused
refused_ok s r h = record { base = h.base; agree = h.agree }

marked_ok : {p : SessionParams} {log : Log} {i : ℕ} (s : Session) (k : ℕ) → SessOk p log i s
    → SessOk p log i (with_head s (marked s.head k))
unfolding marked
marked_ok s k h = record { base = h.base; agree = h.agree }

greeted_ok : {p : SessionParams} {log : Log} {i : ℕ} (s : Session) (k : ℕ) → SessOk p log i s
    → SessOk p log i (with_head s (greeted s.head k))
unfolding greeted
greeted_ok s k h = record { base = h.base; agree = h.agree }

note_ok : {p : SessionParams} {log : Log} {i : ℕ} (s : Session) (r : Refusal) (wrote : Bool) → SessOk p log i s
    → SessOk p log i (with_head s (note_answer (refused s.head r) wrote).head)
unfolding note_answer
note_ok {p} {log} {i} s r wrote h =
    by_test (λ (d : HeadAnswered Delivery). SessOk p log i (with_head s d.head)) (λ _. refused_ok s r h)
    (λ _. refused_ok s r h)

noted_ok : {p : SessionParams} {log : Log} {i : ℕ} (s : Session) (n : Option Note) (wrote : Bool) → SessOk p log i s
    → SessOk p log i (with_head s (Calls.noted s.head n wrote).head)
unfolding Calls.noted
noted_ok s None wrote h = h
noted_ok s (Some (Note'.OutOfWindow tick pending)) wrote h = note_ok s _ wrote h
noted_ok s (Some (Note'.Contradiction peer tick)) wrote h = note_ok s _ wrote h

-- ---- frames

-- frame j of a run of c frames is whole
frame_whole : (run : List ℕ) (w c j : ℕ) → length run ≡ c * w → j < c → length (frame_at run w j) ≡ w
unfolding frame_at
frame_whole run w c j e l =
    let more : suc j * w ≤ c * w = mul-le-mul_right w l in
    length-take-le w (drop (j * w) run) (rw (length-drop, e) (omega (arith, more, suc-mul j w)))

module _ (p : SessionParams) (log : Log) (k : ℕ) (low : k < seats) (short : p.width ≤ max_width)
    (few : p.count ≤ seats) where
  one_ok : (a : Absorbed) (pending tick : ℕ) (v : List ℕ) → length v ≡ p.width → Pressed log k tick v
      → RingFacts p log a.window
      → RingFacts p log (absorb_one a pending k tick v).window
  one_ok a pending tick v lv x h =
      absorb_cases (λ (b : Absorbed). RingFacts p log b.window) a pending k tick v (λ _. h) (λ _. h) (λ _ _. h)
      (λ _ _. h)
      (λ _ _ _. write_ok p log a.window k tick v low short few lv x h)

  first_ok : (a : Absorbed) (pending first w c : ℕ) (run : List ℕ) (n : ℕ) → n ≤ c → w ≡ p.width → length run ≡ c * w
      → first + c ≤ most → ((j : ℕ) → j < c → Pressed log k (first + j) (frame_at run w j)) → RingFacts p log a.window
      → RingFacts p log (absorb_first a pending k first w run n).window
  unfolding absorb_first
  first_ok a pending first w c run zero l ew lr fits x h = h
  first_ok a pending first w c run (suc n) l ew lr fits x h =
      let at : sum first n ≡ first + n = sum_fits first n (omega arith) in
      one_ok _ pending (sum first n) (frame_at run w n) (frame_whole run w c n lr l ∙ ew) (rw at (x n l))
      (first_ok a pending first w c run n (omega arith) ew lr fits x h)

module _ (p : SessionParams) (valid : Valid p) (log : Log) (i k : ℕ) (li : i < p.count) (lk : k < p.count)
    (nk : k ≢ i) where
  ok : Sound (seated p i)
  ok = sound (seated p i) (valid i li)

  low : k < seats
  low = omega (arith, ok.count.greatest)

  inputs_ok : (s : Session) (b : InputsBody) (run : List ℕ) → length run ≡ b.count * b.width
      → b.first + b.count ≤ most → BodyOk log k (Body'.Inputs b) run → SessOk p log i s
      → SessOk p log i (absorb s k b run).session
  unfolding absorb frames_taken frames_noted absorb_inputs
  inputs_ok s b run lr fits x h =
      by_test (λ (d : Answered Delivery). SessOk p log i d.session)
      (λ e.
      let ew : b.width ≡ p.width =
      eqb-true b.width s.head.params.width e ∙ ap (λ (q : SessionParams). q.width) h.base.par in
      let f = h.base in
      let start = untouched s.window s.head.stats.frames_repeated in
      let ring = first_ok p log k low ok.width.greatest ok.count.greatest start (pending_of s) b.first
      b.width b.count run b.count (omega arith) ew lr fits x f.ring in
      noted_ok _ _ _ (record {
        base =
            record {
              par = f.par;
              ring = ring;
              next = f.next;
              fold = f.fold;
              prints = f.prints;
              said = f.said;
              out = f.out;
            };
        agree = h.agree;
      }))
      (λ _. refused_ok s _ h)

  -- ---- a Digest

  judge_ok : (s : Session) (t : ℕ) → Base p log i s
      → (s.head.outcome ≡ None → (t' : ℕ) → t' ≢ t → AgreeAt p.count i s.prints t')
      → SessOk p log i (judged s t).session
  unfolding judged end_with
  judge_ok s t b a =
      by_test (λ (d : Answered Delivery). SessOk p log i d.session) (λ e. parted_ok ok.count.greatest s t b e)
      (λ e. judged_ok ok.count.greatest s t b a e)

  store_ok : (s : Session) (f : Fingerprint) → Said log k f.tick f.state → SessOk p log i s
      → SessOk p log i (judged (with_print s k f) f.tick).session
  store_ok s f x h =
      let b = h.base in
      judge_ok (with_print s k f) f.tick
      (record {
        par = b.par;
        ring = b.ring;
        next = b.next;
        fold = b.fold;
        prints =
            record {
              size = with_remote_sized s.prints k f b.prints.size;
              own = λ t q e. b.prints.own t q (sym (own_for-remote s.prints k f t) ∙ e);
              other = λ j t q l e. other j t q l (remote_for_stored s.prints k f j t q b.prints.size e);
              owes = b.prints.owes;
            };
        said = b.said;
        out = b.out;
      })
      (λ o t n j mine theirs l m y z. agree o t n j mine theirs l m (sym (own_for-remote s.prints k f t) ∙ y)
      (remote_for_stored s.prints k f j t theirs b.prints.size z))
    where
      other : (j t : ℕ) (q : Fingerprint) → j < p.count
          → Stored ((j ≡ k) × (t ≡ f.tick)) f q (remote_for s.prints j t) → Said log j t q.state
      other j t q l (fresh a c) = rw (a.0, a.1, c) x
      other j t q l (older c) = h.base.prints.other j t q l c

      agree : s.head.outcome ≡ None → (t : ℕ) → t ≢ f.tick → (j : ℕ) (mine theirs : Fingerprint)
          → j < p.count → j ≢ i → own_for s.prints t ≡ Some mine
          → Stored ((j ≡ k) × (t ≡ f.tick)) f theirs (remote_for s.prints j t) → mine.state ≡ theirs.state
      agree o t n j mine theirs l m y (fresh a c) = absurd (n a.1)
      agree o t n j mine theirs l m y (older c) = h.agree o t j mine theirs l m y c

  hear_ok : (s : Session) (d : DigestBody) (a : Arrival) → Said log k d.tick d.state → SessOk p log i s
      → SessOk p log i (hear_by s k d a).session
  unfolding hear_by
  hear_ok s d Contradicted x h = refused_ok s _ h
  hear_ok s d Repeated x h = h
  hear_ok s d New x h = store_ok s (print_of d) x h

  -- ---- every kind

  hello_ok : (s : Session) (b : HelloBody) → SessOk p log i s
      → SessOk p log i (with_head s (accept_hello s.head k b).head)
  unfolding accept_hello
  hello_ok s b h =
      by_test (λ (d : HeadAnswered Delivery). SessOk p log i (with_head s d.head)) (λ _. start_ok _ (greeted_ok s k h))
      (λ _. refused_ok s _ h)

  accept_ok : (s : Session) (b : Body) (run : List ℕ) → body_form b (length run) ≡ Ok tt → BodyOk log k b run
      → SessOk p log i s → SessOk p log i (accept s k b run).session
  unfolding accept body_form hear end_with
  accept_ok s (Body'.Hello b) run g x h = hello_ok s b h
  accept_ok s (Body'.Inputs b) run g x h =
      let good = good_inputs b (length run) g in
      inputs_ok (with_head s (marked s.head k)) b run good.long good.ticks x (marked_ok s k h)
  accept_ok s (Body'.Digest d) run g x h = hear_ok (with_head s (marked s.head k)) d _ x (marked_ok s k h)
  accept_ok s (Body'.Bye b) run g x h =
      ended_ok s (PeerLeft k b.tick) (λ t e. absurd (let z : ◌≡◌ {A = ℕ} 0 1 = cc in omega arith)) h.base
  accept_ok s (Body'.Other kind) run g x h = refused_ok s _ h

module _ (p : SessionParams) (valid : Valid p) (log : Log) (i : ℕ) (li : i < p.count) (s : Session) (source : ℕ)
    (m : Message) (run : List ℕ)
    (x : BodyOk log m.sender m.body run) (h : SessOk p log i s) where
  abbrev Kept : Answered Delivery → Type 0
  Kept d = SessOk p log i d.session

  header_ok : m.sender < seats → body_form m.body (length run) ≡ Ok tt → Kept (from_header s source m run)
  unfolding from_header
  header_ok low good =
      by_test Kept (λ _. refused_ok s _ h)
      (λ _. by_test Kept (λ _. refused_ok s _ h)
      (λ _. by_test Kept (λ _. refused_ok s _ h)
      (λ other. by_test Kept (λ _. refused_ok s _ h)
      (λ inside.
      let par = h.base.par in
      let l = ltb-true m.sender s.head.params.count
      (sym (has_roster s.head.params m.sender low) ∙ not-false _ inside) in
      let n : m.sender ≢ i =
      λ q. eqb-false m.sender s.head.params.local other (q ∙ sym (ap (λ (y : SessionParams). y.local) par)) in
      accept_ok p valid log i m.sender li (subst (λ (y : SessionParams). m.sender < y.count) par l) n s
      m.body run good x h))))

  form_ok : (f : Result (Unit {0}) WireError) → form_of m run ≡ f → Kept (deliver_form s source m run f)
  unfolding deliver_form
  form_ok (Err e) q = refused_ok s _ h
  form_ok (Ok good) q = let g = good_header m run q in header_ok g.sender g.body

  standing_ok : (o : Option Outcome) → Kept (deliver_by s source m run o)
  unfolding deliver_by
  standing_ok (Some o) = h
  standing_ok None = form_ok (form_of m run) refl

  pub deliver_ok : Kept (deliver s source m run)
  unfolding deliver
  deliver_ok = by_test Kept (λ _. h) (λ _. standing_ok s.head.outcome)

-- Advance, commit and leave keep the facts: a step's rows are the presses, and its digest is the fold of all presses
-- before. Assumes nothing.
use Prim.Native.Nat.{ℕ, suc, ◌≤◌, ◌<◌}
use mathlib.Core.Path.{◌≡◌, refl, sym, ap, subst, ◌∙◌}
use mathlib.Core.Logic.{◌≢◌}
use mathlib.Core.Bool.{Bool, true, true≢false}
use mathlib.Core.List.Memᴰ
use mathlib.Core.List.{List, [], ◌∷◌}
use native.Mathlib.Omega.{arith}
use lib.ListN.{get_or, take}
use borrow.Author.Tests.{lt-ltb}
use Rattle.std.specs.Prelude.{Err, None, Ok, Option, Some}
use Rattle.logic.specs.Saturating.{most, raised}
use Rattle.logic.proofs.Cases.{by_test}
use Rattle.peer.specs.Seats.{seats, has, is_subset}
use Rattle.peer.proofs.Loops.{every_at}
use Rattle.params.specs.Params.{roster_of}
use Rattle.params.specs.declared.SessionParams.{SessionParams}
use Rattle.params.proofs.Laws.{Sound, sound, has_roster}
use Rattle.window.specs.Window.{held_by, is_held, frame_of}
use Rattle.rows.specs.Rows.{padded, rows_of, step_digest}
use Rattle.rows.proofs.Laws.{length_rows, row_frame, row_head, row_none}
use Rattle.fingerprint.specs.Cells.{own_for, remote_for}
use Rattle.fingerprint.specs.declared.Fingerprint.{Fingerprint}
use Rattle.fingerprint.proofs.Laws.{Stored, fresh, older, with_own_sized, own_for_stored, remote_for-own}
use Rattle.session.specs.declared.Outcome.TheVariants.{Desynced, LeftLocally}
use Rattle.session.specs.declared.Outstanding.{Outstanding}
use Rattle.session.specs.declared.Outcome.{Outcome}
use Rattle.session.specs.declared.Session.{Session}
use Rattle.session.specs.declared.Advance.{Advance}
use Rattle.session.specs.declared.Advance.TheVariants as Advance'
use Rattle.session.specs.declared.Advanced.{Advanced}
use Rattle.session.specs.declared.Answered.{Answered}
use Rattle.session.specs.Numbers.{Commit, Leave, commit_no}
use Rattle.session.specs.Session.{with_head, HeadAnswered, session_with, every_seat}
use Rattle.session.specs.Host.{leave_by, leave_head, leave}
use Rattle.session.specs.Step.{idle, step_rows, take_step, stall, advanced, advance, played, keep_digest, commit}
use Rattle.session.specs.Step as Calls
use Rattle.session.proofs.Cases.{is_idle, advance_cases, commit_cases}
use Rattle.agreement.specs.World.{seated, stepped, committed, step_shown, advance_turn, commit_shown, commit_turn}
use Rattle.agreement.specs.Demand.{Valid, Said, presses}
use Rattle.agreement.proofs.Facts.{pending_of, Log, AllPressed, Folded, FoldFacts, SaidFacts, SessOk}
use Rattle.agreement.proofs.Facts.{EventOk, Same, TurnOk, TurnGoal}
use Rattle.agreement.proofs.Grow.{single, sess_up, sess_same, same_stepped, unpressed_committed, same_committed}
use Rattle.agreement.proofs.Grow.{once-stepped, once-committed, event_up, quiet_ok}
use Rattle.agreement.proofs.Submit.{raised_lt}
use Rattle.agreement.proofs.Judge.{judge_ok}

-- ---- advance

idle_shows : (i : ℕ) (rows : List (List ℕ)) (d : ℕ) (a : Advance) → is_idle a ≡ true → step_shown i rows d a ≡ []
unfolding step_shown
idle_shows i rows d Advance'.Waiting e = refl
idle_shows i rows d (Advance'.Ended o) e = refl
idle_shows i rows d Advance'.BadState e = refl
idle_shows i rows d (Advance'.Step step) e = absurd (true≢false (sym e))
idle_shows i rows d (Advance'.Stalled tick waiting count) e = absurd (true≢false (sym e))

module _ (p : SessionParams) (valid : Valid p) (log : Log) (i : ℕ) (li : i < p.count) where
  ok : Sound (seated p i)
  ok = sound (seated p i) (valid i li)

  -- every seat's frame for the pending tick is held; its frames as rows
  abbrev every_held : Session → Bool
  every_held s = every_seat s.head (held_by s.window (pending_of s))

  abbrev rows_at : Session → List (List ℕ)
  rows_at s = step_rows s.head s.window

  seat_held : (s : Session) → s.head.params ≡ seated p i → every_held s ≡ true → (k : ℕ) → k < p.count
      → is_held s.window k (pending_of s) ≡ true
  unfolding every_seat is_subset is_held
  seat_held s par e k l =
      let low : k < seats = omega (arith, ok.count.greatest) in
      let in-it : has (roster_of s.head.params) k ≡ true =
      has_roster s.head.params k low
      ∙ lt-ltb k s.head.params.count (subst (λ (x : SessionParams). k < x.count) (sym par) l) in
      rw in-it at (every_at seats _ e k low)

  -- the step's rows are the presses
  all_held : (s : Session) → every_held s ≡ true → SessOk p log i s → AllPressed p log (pending_of s) (rows_at s)
  all_held s e h =
      let par = h.base.par in
      let w = s.window in
      let t = pending_of s in
      let n = p.count in
      let m = p.width in
      let rows = rows_of w t n m in
      let same : rows ≡ rows_at s = sym (ap (λ (x : SessionParams). rows_of w t x.count x.width) par) in
      let few = ok.count.greatest in
      let short = ok.width.greatest in
      let head : (k : ℕ) → k < n → take m (get_or rows k []) ≡ frame_of w k t m =
      λ k l. row_head w t n m h.base.ring.ok k l few short in
      subst (AllPressed p log t) same (record {
        size = length_rows w t n m;
        each = λ k l. rw (head k l)
            (h.base.ring.each k t (frame_of w k t m) l (record { held = seat_held s par e k l; frame = refl }));
        pads = λ k l. row_frame w t n m k (omega arith) l ∙ ap padded (sym (head k l));
        none = λ k l c. row_none w t n m k l c;
      })

  step_ok : (s : Session) → s.head.play.step ≡ None → every_held s ≡ true → SessOk p log i s
      → TurnOk p log i (advance_turn i (advanced s (take_step s.head (rows_at s))))
  unfolding advance_turn take_step Calls.stepped step_shown
  step_ok s free e h =
      let rows = rows_at s in
      let all = all_held s e h in
      let f : Folded p log (pending_of s) s.head.play.digest =
      subst (λ (o : Option Outstanding). FoldFacts p log (pending_of s) o s.head.play.digest) free h.base.fold in
      let was = s.head.play.digest in
      let a = step_digest was (pending_of s) s.head.params.count s.head.params.width rows in
      let is : a ≡ step_digest was (pending_of s) p.count p.width rows =
      ap (λ (x : SessionParams). step_digest was (pending_of s) x.count x.width rows) h.base.par in
      let fold : Folded p log (suc (pending_of s)) a =
      record { before = was; rows = rows; fold = f; all = all; is = is } in
      let shown = stepped i (pending_of s) rows a in
      let grown : (j : ℕ) → Same j log (shown ∷ log) = λ j. same_stepped j log i (pending_of s) a rows in
      let keep = (grown i).unpressed.keep in
      let g = sess_same (grown i) h in
      let later = event_up keep p shown (all, fold) in
      record {
        session =
            record {
              base =
                  record {
                    par = g.base.par;
                    ring = g.base.ring;
                    next = g.base.next;
                    fold = (refl, later.1);
                    prints = g.base.prints;
                    said = g.base.said;
                    out = g.base.out;
                  };
              agree = g.agree;
            };
        sends = λ m x. elim x [ ];
        shows = single (EventOk p (shown ∷ log)) later;
        once = once-stepped i (pending_of s) a rows;
        others = λ j _. grown j;
        keep = keep;
      }

  still : (s : Session) (a : Advance) → is_idle a ≡ true → SessOk p log i s
      → TurnOk p log i (advance_turn i (advanced s (idle s.head a)))
  unfolding advance_turn
  still s a e h = rw (idle_shows i _ s.head.play.digest a e) (quiet_ok h)

  stall_ok : (s : Session) → SessOk p log i s
      → TurnOk p log i (advance_turn i (advanced s (stall s.head (held_by s.window (pending_of s)))))
  unfolding advance_turn stall step_shown
  stall_ok s h = quiet_ok (record { base = h.base; agree = h.agree })

  pub advance_ok : (s : Session) → SessOk p log i s → TurnOk p log i (advance_turn i (advance s))
  advance_ok s h =
      advance_cases (λ (r : Advanced). TurnOk p log i (advance_turn i r)) s (λ a e. still s a e h)
      (λ _ f e. step_ok s f e h) (stall_ok s h)

-- ---- commit

refused_shows : (i t : ℕ) (given : Option ℕ) (a : Commit) → commit_no a ≢ 0 → commit_shown i t given a ≡ []
unfolding commit_shown
refused_shows i t given (Ok done) n = absurd (n refl)
refused_shows i t None (Err refusal) n = refl
refused_shows i t (Some d) (Err refusal) n = refl

module _ (p : SessionParams) (few : p.count ≤ seats) (log : Log) (i : ℕ) where
  -- a digest that the log has goes in its cell and is judged
  print_ok : (s : Session) (t state : ℕ) → SessOk p log i s → Said log i t state
      → SessOk p log i (keep_digest s t (Some state))
  unfolding keep_digest
  print_ok s t state h x =
      let b = h.base in
      judge_ok few _ t
      (record {
        par = b.par;
        ring = b.ring;
        next = b.next;
        fold = b.fold;
        prints =
            record {
              size = with_own_sized s.prints f b.prints.size;
              own = λ t' q e. own t' q (own_for_stored s.prints f t' q b.prints.size e);
              other = λ k t' q l e. b.prints.other k t' q l (sym (remote_for-own s.prints f k t') ∙ e);
              owes = λ q e. let same : q ≡ f = cc in rw same x;
            };
        said = b.said;
        out = b.out;
      })
      (λ o t' n k mine theirs l m y z. agree o t' n k mine theirs l m
      (own_for_stored s.prints f t' mine b.prints.size y) (sym (remote_for-own s.prints f k t') ∙ z))
    where
      f : Fingerprint
      f = record { tick = t; state = state; input = s.head.play.digest }

      own : (t' : ℕ) (q : Fingerprint) → Stored (t' ≡ t) f q (own_for s.prints t') → Said log i t' q.state
      own t' q (fresh a c) = rw (a, c) x
      own t' q (older c) = h.base.prints.own t' q c

      agree : s.head.outcome ≡ None → (t' : ℕ) → t' ≢ t → (k : ℕ) (mine theirs : Fingerprint) → k < p.count → k ≢ i
          → Stored (t' ≡ t) f mine (own_for s.prints t')
          → remote_for s.prints k t' ≡ Some theirs → mine.state ≡ theirs.state
      agree o t' n k mine theirs l m (fresh a c) z = absurd (n a)
      agree o t' n k mine theirs l m (older c) z = h.agree o t' k mine theirs l m c z

  -- an outstanding step is for the pending tick, which has one's own press, so it is not the last number
  module _ (li : i < p.count) (s : Session) (t : ℕ) (out : Outstanding) (e : s.head.play.step ≡ Some out)
      (at : out.tick ≡ t) (h : SessOk p log i s) where
    out_fold : (t ≡ pending_of s) × Folded p log (suc (pending_of s)) s.head.play.digest
    out_fold =
        let f = subst (λ (o : Option Outstanding). FoldFacts p log (pending_of s) o s.head.play.digest) e h.base.fold in
        (sym at ∙ f.0, f.1)

    room : presses log i < most → raised (pending_of s) ≡ suc (pending_of s)
    room rare =
        let own = out_fold.1.all.each i li in
        raised_lt (pending_of s) (omega (arith, h.base.next.below (pending_of s) _ own, h.base.next.many))

    pend_ok : presses log i < most → SessOk p log i (with_head s (played s.head))
    unfolding played
    pend_ok rare =
        let b = h.base in
        let more = room rare in
        record {
          base =
              record {
                par = b.par;
                ring = b.ring;
                next = b.next;
                fold = rw more out_fold.1;
                prints = b.prints;
                said = λ t' d x. omega (arith, more, b.said t' d x);
                out = b.out;
              };
          agree = h.agree;
        }

    -- so its commit is the seat's first for that tick, and below the next pending one
    unsaid : (d : ℕ) → Said log i t d → ⊥
    unsaid d x = omega (arith, out_fold.0, h.base.said t d x)

    said_ok : (d : ℕ) → presses log i < most → SaidFacts (committed i t d ∷ log) i (raised (pending_of s))
    said_ok d rare t' d' (Memᴰ.head q) = let same : t' ≡ t = cc in omega (arith, same, out_fold.0, room rare)
    said_ok d rare t' d' (Memᴰ.tail x) = omega (arith, room rare, h.base.said t' d' x)

module _ (p : SessionParams) (few : p.count ≤ seats) (log : Log) (i : ℕ) (li : i < p.count) where
  uncommitted : (s : Session) (t : ℕ) (given : Option ℕ) (a : Commit) → commit_no a ≢ 0 → SessOk p log i s
      → TurnGoal p log i (commit_turn i t given (session_with s a))
  unfolding commit_turn
  uncommitted s t given a n h rare = rw (refused_shows i t given a n) (quiet_ok h)

  done_ok : (s : Session) (t : ℕ) (given : Option ℕ) (out : Outstanding) → s.head.play.step ≡ Some out → out.tick ≡ t
      → SessOk p log i s → TurnGoal p log i
      (commit_turn i t given
      (session_with (keep_digest (with_head s (played s.head)) t given) (Ok tt)))
  unfolding commit_turn commit_shown keep_digest played
  done_ok s t None out e at h rare = quiet_ok (pend_ok p few log i li s t out e at h (rare i li))
  done_ok s t (Some d) out e at h rare =
      let longer = committed i t d ∷ log in
      let grown = unpressed_committed i log i t d in
      let few-here : presses log i < most = omega (arith, rare i li, grown.count) in
      let next = with_head s (played s.head) in
      record {
        session =
            print_ok p few longer i next t d
            (sess_up grown (said_ok p few log i li s t out e at h d few-here)
            (pend_ok p few log i li s t out e at h few-here)) (Memᴰ.head refl);
        sends = λ m x. elim x [ ];
        shows = single (EventOk p longer) tt;
        once = once-committed i t d (unsaid p few log i li s t out e at h);
        others = λ j n. same_committed i j log t d n;
        keep = grown.keep;
      }

  pub commit_ok : (s : Session) (t : ℕ) (given : Option ℕ) → SessOk p log i s
      → TurnGoal p log i (commit_turn i t given (commit s t given))
  commit_ok s t given h =
      commit_cases (λ (r : Answered Commit). TurnGoal p log i (commit_turn i t given r)) s t given
      (λ a n. uncommitted s t given a n h) (λ out e at _. done_ok s t given out e at h)

-- ---- leave

left-not_desynced : {t u : ℕ} → Some (LeftLocally t) ≡ Some (Desynced u) → ⊥
left-not_desynced e = let z : ◌≡◌ {A = ℕ} 0 1 = cc in omega arith

module _ {p : SessionParams} {log : Log} {i : ℕ} where
  left_ok : (s : Session) (o : Option Outcome) → s.head.outcome ≡ o → SessOk p log i s
      → SessOk p log i (with_head s (leave_by s.head o).head)
  unfolding leave_by
  left_ok s (Some o) e h = h
  left_ok s None e h =
      let b = h.base in
      record {
        base =
            record {
              par = b.par;
              ring = b.ring;
              next = b.next;
              fold = b.fold;
              prints = b.prints;
              said = b.said;
              out = λ t q. absurd (left-not_desynced q);
            };
        agree = λ q. absurd (let z : ◌≡◌ {A = ℕ} 0 1 = cc in omega arith);
      }

  pub leave_ok : (s : Session) → SessOk p log i s → SessOk p log i (leave s).session
  unfolding leave leave_head
  leave_ok s h =
      by_test (λ (r : HeadAnswered Leave). SessOk p log i (with_head s r.head)) (λ _. h)
      (λ _. left_ok s s.head.outcome refl h)

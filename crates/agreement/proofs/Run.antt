-- Every run keeps the facts.
-- Assumes nothing.
use Prim.Native.Nat.{ℕ, zero, suc, ◌≤◌, ◌<◌}
use mathlib.Core.Path.{◌≡◌, refl}
use mathlib.Core.Logic.{◌⊎◌, inl, inr}
use mathlib.Core.Bool.{true≢false}
use mathlib.Core.List.Memᴰ
use mathlib.Core.List.{List, [], ◌∷◌, ◌++◌, Memᴰ}
use native.Mathlib.Omega.{arith}
use borrow.Author.Tests.{eqb-true, eqb-false, ltb-true}
use Rattle.std.specs.Prelude.{Option, None, Some, slice_get}
use Rattle.logic.proofs.Cases.{by_test}
use Rattle.params.specs.declared.SessionParams.{SessionParams}
use Rattle.params.proofs.Laws.{sound}
use Rattle.window.proofs.Laws.{fresh_sized, fresh_holds}
use Rattle.fingerprint.proofs.Laws.{new_sized, own_for-new, remote_for-new}
use Rattle.session.specs.declared.Session.{Session}
use Rattle.session.specs.Session.{fresh_head, fresh}
use Rattle.session.specs.Host.{opened}
use Rattle.agreement.specs.World.{seated, Mail, Call, submits, delivers, advances, commits, leaves, pumps, asks}
use Rattle.agreement.specs.World.{Event, pressed, stepped, committed, World, Turn, deliver_turn, turn, seat_of}
use Rattle.agreement.specs.World.{update, after, play, run}
use Rattle.agreement.specs.Demand.{Valid, presses, Few}
use Rattle.agreement.proofs.Facts.{Log, SessOk, MailOk, EventOk, TurnOk, TurnGoal, WorldOk}
use Rattle.agreement.proofs.Grow.{sess_same, body_up, event_up, quiet_ok}
use Rattle.agreement.proofs.Submit.{submit_ok}
use Rattle.agreement.proofs.Step.{advance_ok, commit_ok, leave_ok}
use Rattle.agreement.proofs.Deliver.{deliver_ok}
use Rattle.agreement.proofs.Pump.{pump_ok}

got : {A : Type 0} (l : List A) (j : ℕ) (a : A) → slice_get l j ≡ Some a → Memᴰ a l
got [] j a e = absurd (true≢false (cc))
got (x ∷ xs) zero a e = let q : a ≡ x = cc in Memᴰ.head q
got (x ∷ xs) (suc j) a e = Memᴰ.tail (got xs j a e)

presses-le : (new log : Log) (k : ℕ) → presses log k ≤ presses (new ++ log) k
unfolding presses
presses-le [] log k = omega arith
presses-le (pressed i t b ∷ new) log k =
    let h = presses-le new log k in by_test (λ (x : ℕ). presses log k ≤ x) (λ _. omega arith) (λ _. omega arith)
presses-le (stepped i t rows a ∷ new) log k = presses-le new log k
presses-le (committed i t d ∷ new) log k = presses-le new log k

module _ (p : SessionParams) (valid : Valid p) where
  fresh_ok : (i : ℕ) → SessOk p [] i (opened (seated p i)).session
  unfolding opened fresh_head fresh presses
  fresh_ok i = record {
    base =
        record {
          par = refl;
          ring = record { ok = fresh_sized; each = λ k t v l h. absurd (fresh_holds p.width k t v h) };
          next = record { below = λ t b x. elim x [ ]; many = refl };
          fold = refl;
          prints =
              record {
                size = new_sized;
                own = λ t f e. absurd (true≢false (cc (own_for-new t)));
                other = λ k t f l e. absurd (true≢false (cc (remote_for-new k t)));
                owes = λ f e. absurd (true≢false (cc));
              };
          said = λ t d x. elim x [ ];
          out = λ t e. absurd (true≢false (cc));
        };
    agree = λ _ t k mine theirs l n x y. absurd (true≢false (cc (own_for-new t)));
  }

  given_ok : (log : Log) (i : ℕ) → i < p.count → (s : Session) (o : Option Mail)
      → ((m : Mail) → o ≡ Some m → MailOk log m) → SessOk p log i s → TurnOk p log i (deliver_turn s o)
  unfolding deliver_turn
  given_ok log i li s None x h = quiet_ok h
  given_ok log i li s (Some m) x h =
      quiet_ok (deliver_ok p valid log i li s m.source m.message m.run (x m refl) h)

  turn_ok : (w : World) (c : Call) → WorldOk p w → seat_of c < p.count → TurnGoal p w.log (seat_of c) (turn w c)
  unfolding turn seat_of
  turn_ok w (submits i b) h l = submit_ok p valid w.log i l (w.at i) b (h.sessions i l)
  turn_ok w (delivers i j) h l =
      λ _. given_ok w.log i l (w.at i) _ (λ m e. h.mail m (got w.mail j m e)) (h.sessions i l)
  turn_ok w (advances i) h l = λ _. advance_ok p valid w.log i l (w.at i) (h.sessions i l)
  turn_ok w (commits i t d) h l =
      commit_ok p (sound (seated p i) (valid i l)).count.greatest w.log i l (w.at i) t d (h.sessions i l)
  turn_ok w (leaves i) h l = λ _. quiet_ok (leave_ok (w.at i) (h.sessions i l))
  turn_ok w (pumps i) h l = λ _. pump_ok p w.log i l (w.at i) (h.sessions i l)
  turn_ok w (asks i) h l = λ _. quiet_ok (h.sessions i l)

  module _ (w : World) (i : ℕ) (r : Turn) (h : WorldOk p w) (t : TurnOk p w.log i r) where
    seat_ok : (j : ℕ) → j < p.count → SessOk p (r.shows ++ w.log) j (update w.at i r.session j)
    unfolding update
    seat_ok j l =
        by_test (SessOk p (r.shows ++ w.log) j) (λ e. let same : j ≡ i = eqb-true j i e in rw same t.session)
        (λ e. sess_same (t.others j (eqb-false j i e)) (h.sessions j l))

    mail_ok : (m : Mail) → Memᴰ m r.sends ⊎ Memᴰ m w.mail → MailOk (r.shows ++ w.log) m
    mail_ok m (inl x) = t.sends m x
    mail_ok m (inr x) = body_up t.keep m.message.sender m.message.body m.run (h.mail m x)

    log_ok : (e : Event) → Memᴰ e r.shows ⊎ Memᴰ e w.log → EventOk p (r.shows ++ w.log) e
    log_ok e (inl x) = t.shows e x
    log_ok e (inr x) = event_up t.keep p e (h.steps e x)

    after_ok : WorldOk p (after w i r)
    unfolding after
    after_ok = record {
      sessions = seat_ok;
      mail = λ m x. mail_ok m (Memᴰ.append_cases r.sends x);
      steps = λ e x. log_ok e (Memᴰ.append_cases r.shows x);
      once = t.once h.once;
    }

  pub run_ok : (cs : List Call) → Few p (run p cs).log → WorldOk p (run p cs)
  unfolding run play after
  run_ok [] = λ few. record {
    sessions = λ i l. fresh_ok i;
    mail = λ m x. elim x [ ];
    steps = λ e x. elim x [ ];
    once = record { press = λ k t b c x y. elim x [ ]; commit = λ k t b c x y. elim x [ ] };
  }
  run_ok (c ∷ cs) =
      let w = run p cs in
      by_test (λ (u : World). Few p u.log → WorldOk p u)
      (λ l few.
      let h = run_ok cs (λ k lk. omega (arith, few k lk, presses-le (turn w c).shows w.log k)) in
      after_ok w (seat_of c) (turn w c) h (turn_ok w c h (ltb-true _ _ l) few))
      (λ _ few. run_ok cs few)

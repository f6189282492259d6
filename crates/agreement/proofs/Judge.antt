-- Judging keeps the facts, and restores the agreement at the tick that it judges.
-- Assumes nothing.
use Prim.Native.Nat.{ℕ, ◌≤◌, ◌<◌}
use mathlib.Core.Path.{◌≡◌, sym, ap, ◌∙◌}
use mathlib.Core.Logic.{◌≢◌}
use mathlib.Core.Bool.{true, false, ◌&&◌, not}
use native.Mathlib.Omega.{arith}
use lib.Dec.{eqb, ltb}
use borrow.Author.Tests.{lt-ltb, ne_eqb, eqb-false, ltb-true, not-true}
use Rattle.std.specs.Prelude.{None, Option, Some}
use Rattle.logic.proofs.Cases.{by_test, case_eq, and_both}
use Rattle.peer.specs.Seats.{seats, has}
use Rattle.params.specs.Params.{remotes_of}
use Rattle.params.specs.declared.SessionParams.{SessionParams}
use Rattle.params.proofs.Laws.{has_remotes}
use Rattle.fingerprint.specs.Judging.{parted}
use Rattle.fingerprint.proofs.Laws.{parted_true, parted_false}
use Rattle.session.specs.declared.Outcome.{Outcome}
use Rattle.session.specs.declared.Outcome.TheVariants.{Desynced}
use Rattle.session.specs.declared.Session.{Session}
use Rattle.session.specs.Session.{with_head, over, ended}
use Rattle.session.specs.Step.{judge}
use Rattle.agreement.specs.Demand.{Differ, AgreeAt}
use Rattle.agreement.proofs.Facts.{Log, OutFacts, Base, SessOk}

not_open : {o : Outcome} → Some o ≡ None → ⊥
not_open e = let z : ◌≡◌ {A = ℕ} 0 1 = cc in omega arith

over-not_open : (was : Option Outcome) (o : Outcome) → over was o ≡ None → ⊥
over-not_open None o e = not_open e
over-not_open (Some q) o e = not_open e

over_out : (p : SessionParams) (log : Log) (i : ℕ) (was : Option Outcome) (o : Outcome) → OutFacts p log i was
    → ((t : ℕ) → o ≡ Desynced t → Differ p log i t) → OutFacts p log i (over was o)
over_out p log i None o h d t e = d t (let q : o ≡ Desynced t = cc in q)
over_out p log i (Some q) o h d t e = h t e

module _ {p : SessionParams} {log : Log} {i : ℕ} where
  pub ended_ok : (s : Session) (o : Outcome) → ((t : ℕ) → o ≡ Desynced t → Differ p log i t) → Base p log i s
      → SessOk p log i (with_head s (ended s.head o))
  unfolding ended
  ended_ok s o d b = record {
    base =
        record {
          par = b.par;
          ring = b.ring;
          next = b.next;
          fold = b.fold;
          prints = b.prints;
          said = b.said;
          out = over_out p log i s.head.outcome o b.out d;
        };
    agree = λ e. absurd (over-not_open s.head.outcome o e);
  }

  module _ (few : p.count ≤ seats) (s : Session) (t : ℕ) (b : Base p log i s) where
    -- a remote is another seat of the circle
    remote_is : (k : ℕ) → k < seats → has (remotes_of s.head.params) k ≡ true → (k < p.count) × (k ≢ i)
    remote_is k l e =
        let q : ltb k p.count && not (eqb k i) ≡ true =
        sym (ap (λ (x : SessionParams). ltb k x.count && not (eqb k x.local)) b.par)
        ∙ sym (has_remotes s.head.params k l) ∙ e in
        let both = and_both _ _ q in
        (ltb-true k p.count both.0, eqb-false k i (not-true _ both.1))

    is_remote : (k : ℕ) → k < p.count → k ≢ i → has (remotes_of s.head.params) k ≡ true
    is_remote k l n =
        has_remotes s.head.params k (omega arith)
        ∙ ap (λ (x : SessionParams). ltb k x.count && not (eqb k x.local)) b.par
        ∙ rw (lt-ltb k p.count l, ne_eqb k i n)

    apart : parted s.prints (remotes_of s.head.params) t ≡ true → Differ p log i t
    apart e =
        let d = parted_true s.prints (remotes_of s.head.params) t e in
        let is = remote_is d.seat d.low d.remote in
        record {
          seat = d.seat;
          within = is.0;
          another = is.1;
          ours = d.mine.state;
          theirs = d.theirs.state;
          we = b.prints.own t d.mine d.own;
          they = b.prints.other d.seat t d.theirs is.0 d.other;
          apart = λ q. d.apart (sym q);
        }

    together : parted s.prints (remotes_of s.head.params) t ≡ false → AgreeAt p.count i s.prints t
    together e k mine theirs l n x y =
        let low : k < seats = omega arith in
        sym (parted_false s.prints (remotes_of s.head.params) t e mine x k low (is_remote k l n) theirs y)

    -- agreement at every tick but t, and judged at t
    pub judged_ok : (s.head.outcome ≡ None → (t' : ℕ) → t' ≢ t → AgreeAt p.count i s.prints t')
        → parted s.prints (remotes_of s.head.params) t ≡ false → SessOk p log i s
    judged_ok a e = record { base = b; agree = λ o t'. case_eq t' t (λ q. rw q (together e)) (λ n. a o t' n) }

    pub parted_ok : parted s.prints (remotes_of s.head.params) t ≡ true
        → SessOk p log i (with_head s (ended s.head (Desynced t)))
    parted_ok e = ended_ok s (Desynced t) (λ t' q. let same : t ≡ t' = cc in rw (← same) (apart e)) b

    pub judge_ok : (s.head.outcome ≡ None → (t' : ℕ) → t' ≢ t → AgreeAt p.count i s.prints t')
        → SessOk p log i (judge s t)
    unfolding judge
    judge_ok a = by_test (SessOk p log i) (λ e. parted_ok e) (λ e. judged_ok a e)

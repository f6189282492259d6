-- What a reader of the rules wants to see said of the host's calls: a refusal changes nothing, the first outcome stays,
-- and no counter changes but the count of a stall. Assumes nothing.
use Prim.Native.Nat.{ℕ}
use mathlib.Core.Path.{◌≡◌, refl, ap, ◌∙◌}
use mathlib.Core.Logic.{◌≢◌}
use mathlib.Core.List.{List}
use mathlib.Core.Bool.{true, false, false≢true}
use Rattle.std.specs.Prelude.{Err, None, Ok, Option, Some}
use Rattle.logic.proofs.Cases.{by_test, if_true, if_false}
use Rattle.params.specs.Params.{bad_state}
use Rattle.stats.specs.Stats.{stalled_of}
use Rattle.session.specs.declared.Outcome.{Outcome}
use Rattle.session.specs.declared.Outcome.TheVariants.{Desynced}
use Rattle.session.specs.declared.Head.{Head}
use Rattle.session.specs.declared.Session.{Session}
use Rattle.session.specs.declared.Advanced.{Advanced}
use Rattle.session.specs.declared.Answered.{Answered}
use Rattle.session.specs.Numbers.{Submit, Commit, submit_no, commit_no}
use Rattle.session.specs.Session.{head_with, over, ended, started}
use Rattle.session.specs.Host.{pressed, submit, leave_by, leave_head, leave}
use Rattle.session.specs.Step.{stepped, take_step, stall, advance, played, judge, keep_digest, commit}
use Rattle.session.proofs.Cases.{submit_cases, commit_cases, is_idle, advance_cases}

-- ---- what stays of a head: an outcome that it has, and the counters

pub record Stays (h k : Head) : Type 0 where
  pub outcome : (o : Outcome) → h.outcome ≡ Some o → k.outcome ≡ Some o
  pub stats : k.stats ≡ h.stats

same : (h : Head) → Stays h h
same h = record { outcome = λ o e. e; stats = refl }

-- one change after another
after : {h k l : Head} → Stays h k → Stays k l → Stays h l
after f g = record { outcome = λ o e. g.outcome o (f.outcome o e); stats = g.stats ∙ f.stats }

over_stays : (was : Option Outcome) (new o : Outcome) → was ≡ Some o → over was new ≡ Some o
over_stays was new o e = rw e

pub ended_stays : (h : Head) (o : Outcome) → Stays h (ended h o)
unfolding ended
ended_stays h o = record { outcome = λ p e. over_stays h.outcome o p e; stats = refl }

pub started_stays : (h : Head) → Stays h (started h)
unfolding started
started_stays h = by_test (Stays h) (λ _. record { outcome = λ o e. e; stats = refl }) (λ _. same h)

-- ---- submit

pub record OfSubmit (s : Session) (r : Answered Submit) : Type 0 where
  -- 20, 41, 42 and an ended submit change nothing
  pub refused : submit_no r.answer ≢ 0 → r.session ≡ s
  pub stays : Stays s.head r.session.head

pressed_stays : (h : Head) → Stays h (pressed h)
unfolding pressed
pressed_stays h = record { outcome = λ o e. e; stats = refl }

pub of_submit : (s : Session) (input : List ℕ) → OfSubmit s (submit s input)
of_submit s input =
    submit_cases (OfSubmit s) s input (λ a n. record { refused = λ _. refl; stays = same s.head })
    (λ _ _. record {
      refused = λ n. absurd (n refl);
      stays = after (pressed_stays s.head) (started_stays (pressed s.head));
    })

-- ---- commit

pub record OfCommit (s : Session) (r : Answered Commit) : Type 0 where
  -- 20, 51 and 52 change nothing
  pub refused : commit_no r.answer ≢ 0 → r.session ≡ s
  pub stays : Stays s.head r.session.head

judge_stays : (s : Session) (tick : ℕ) → Stays s.head (judge s tick).head
unfolding judge
judge_stays s tick =
    by_test (λ (t : Session). Stays s.head t.head)
    (λ _. ended_stays s.head (Desynced tick)) (λ _. same s.head)

keep_digest_stays : (s : Session) (tick : ℕ) (given : Option ℕ) → Stays s.head (keep_digest s tick given).head
unfolding keep_digest
keep_digest_stays s tick None = same s.head
keep_digest_stays s tick (Some state) = after (record { outcome = λ o e. e; stats = refl }) (judge_stays _ tick)

pub of_commit : (s : Session) (tick : ℕ) (given : Option ℕ) → OfCommit s (commit s tick given)
unfolding played
of_commit s tick given =
    commit_cases (OfCommit s) s tick given (λ a n. record { refused = λ _. refl; stays = same s.head })
    (λ out _ _ _. record {
      refused = λ n. absurd (n refl);
      stays = after (record { outcome = λ o e. e; stats = refl }) (keep_digest_stays _ tick given);
    })

-- ---- leave: after any outcome it gives the standing one and changes nothing, and so does 20

pub leave_again : (s : Session) (o : Outcome) → bad_state s.head.params ≡ false → s.head.outcome ≡ Some o
    → leave s ≡ record { session = s; answer = Ok o }
unfolding leave leave_head leave_by
leave_again s o good e =
    let given : leave_head s.head ≡ head_with s.head (Ok o) =
    if_false _ _ good ∙ ap (leave_by s.head) e in rw given

pub leave-refused : (s : Session) → bad_state s.head.params ≡ true
    → leave s ≡ record { session = s; answer = Err (record {}) }
unfolding leave leave_head
leave-refused s bad = rw (if_true _ _ bad)

-- ---- advance, whose stall counts from 0 again at another tick

pub record OfAdvance (s : Session) (r : Advanced) : Type 0 where
  -- an answer that is neither a step nor a stall changes nothing
  pub idle : is_idle r.answer ≡ true → r.session ≡ s
  pub outcome : r.session.head.outcome ≡ s.head.outcome
  pub refused : r.session.head.stats.datagrams_refused ≡ s.head.stats.datagrams_refused
  pub repeated : r.session.head.stats.frames_repeated ≡ s.head.stats.frames_repeated
  pub contradicted : r.session.head.stats.frames_contradicted ≡ s.head.stats.frames_contradicted
  pub beyond : r.session.head.stats.frames_out_of_window ≡ s.head.stats.frames_out_of_window
  pub digests : r.session.head.stats.digests_contradicted ≡ s.head.stats.digests_contradicted

pub of_advance : (s : Session) → OfAdvance s (advance s)
unfolding take_step stepped stall stalled_of
of_advance s =
    advance_cases (OfAdvance s) s
    (λ a e. record {
      idle = λ _. refl;
      outcome = refl;
      refused = refl;
      repeated = refl;
      contradicted = refl;
      beyond = refl;
      digests = refl;
    })
    (λ _ _ _. record {
      idle = λ e. absurd (false≢true e);
      outcome = refl;
      refused = refl;
      repeated = refl;
      contradicted = refl;
      beyond = refl;
      digests = refl;
    })
    record {
      idle = λ e. absurd (false≢true e);
      outcome = refl;
      refused = refl;
      repeated = refl;
      contradicted = refl;
      beyond = refl;
      digests = refl;
    }

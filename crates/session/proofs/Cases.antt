-- Each call of the host as one law by cases: what holds of every refusal and of every way in which the call goes on
-- holds of the call. Assumes nothing.
use Prim.Native.Nat.{ℕ}
use mathlib.Core.Path.{◌≡◌, refl, sym}
use mathlib.Core.Logic.{◌≢◌}
use mathlib.Core.List.{List}
use mathlib.Core.Bool.{Bool, true, false}
use lib.Dec.{eqb}
use lib.ListN.{length}
use borrow.Author.Tests.{eq-eqb, ne_eqb, eqb-true, eqb-false, not-false}
use Rattle.std.specs.Prelude.{Err, None, Ok, Option, Some}
use Rattle.logic.specs.Test.{when◌then◌else◌}
use Rattle.logic.proofs.Cases.{by_test, if_true, if_false}
use Rattle.params.specs.Params.{bad_state}
use Rattle.window.specs.Window.{held_by, write_frame}
use Rattle.session.specs.declared.Outcome.{Outcome}
use Rattle.session.specs.declared.Outcome.TheVariants.{Desynced, PeerLeft, LeftLocally}
use Rattle.session.specs.declared.Outstanding.{Outstanding}
use Rattle.session.specs.declared.Head.{Head}
use Rattle.session.specs.declared.Session.{Session}
use Rattle.session.specs.declared.Answered.{Answered}
use Rattle.session.specs.declared.SubmitError.TheVariants as Submit'
use Rattle.session.specs.declared.CommitError.TheVariants as Commit'
use Rattle.session.specs.declared.Advance.{Advance}
use Rattle.session.specs.declared.Advance.TheVariants as Advance'
use Rattle.session.specs.declared.Advanced.{Advanced}
use Rattle.session.specs.Numbers.{Submit, Commit, submit_no, commit_no}
use Rattle.session.specs.Session.{session_of, with_head, HeadAnswered, head_with, session_with, every_seat, started}
use Rattle.session.specs.Host.{pressed, submit_open, submit_by, submit_head, submit}
use Rattle.session.specs.Step.{HeadAdvanced, idle, take_step, stall, drain, play_on, advance_by, advance_from}
use Rattle.session.specs.Step.{advance_head, step_rows, advanced, advance, played, mismatch, keep_digest, commit_from, commit}

-- ---- submit

module _ (Q : HeadAnswered Submit → Type 0) (h : Head) (n : ℕ)
    (refused : (a : Submit) → submit_no a ≢ 0 → Q (head_with h a))
    (accepted : h.outcome ≡ None → n ≡ h.params.width
    → Q (head_with (started (pressed h)) (Ok h.play.next_local))) where
  open_cases : h.outcome ≡ None → Q (submit_open h n)
  unfolding submit_open
  open_cases o =
      by_test Q (λ _. refused (Err (Submit'.WrongWidth _ _)) (eqb-false 41 0 refl))
      (λ e. by_test Q (λ _. refused (Err (Submit'.WindowFull _ _)) (eqb-false 42 0 refl))
      (λ _. accepted o (eqb-true n h.params.width (not-false _ e))))

  standing_cases : (o : Option Outcome) → h.outcome ≡ o → Q (submit_by h n o)
  unfolding submit_by
  standing_cases (Some o) e = refused (Err (Submit'.Ended o)) (eqb-false 1 0 refl)
  standing_cases None e = open_cases e

  head_cases : Q (submit_head h n)
  unfolding submit_head
  head_cases =
      by_test Q (λ _. refused (Err Submit'.BadState) (eqb-false 20 0 refl)) (λ _. standing_cases h.outcome refl)

module _ (P : Answered Submit → Type 0) (s : Session) (input : List ℕ)
    (refused : (a : Submit) → submit_no a ≢ 0 → P (session_with s a))
    (accepted : s.head.outcome ≡ None → length input ≡ s.head.params.width → let h = s.head in
    let w = write_frame s.window h.params.local h.play.next_local input in
    P (session_with (session_of (started (pressed h)) w s.prints) (Ok h.play.next_local))) where
  pub submit_cases : P (submit s input)
  unfolding submit
  submit_cases =
      let w = write_frame s.window s.head.params.local s.head.play.next_local input in
      head_cases
      (λ (r : HeadAnswered Submit).
      let after = when eqb (submit_no r.answer) 0 then w else s.window in
      P (session_with (session_of r.head after s.prints) r.answer))
      s.head (length input)
      (λ a n. rw (if_false w s.window (ne_eqb (submit_no a) 0 n)) (refused a n))
      (λ o e. rw (if_true w s.window (eq-eqb 0 0 refl)) (accepted o e))

-- ---- commit

module _ (P : Answered Commit → Type 0) (s : Session) (tick : ℕ) (given : Option ℕ)
    (refused : (a : Commit) → commit_no a ≢ 0 → P (session_with s a))
    (done : (out : Outstanding) → s.head.play.step ≡ Some out → out.tick ≡ tick → mismatch out.due given ≡ false
    → P (session_with (keep_digest (with_head s (played s.head)) tick given) (Ok tt))) where
  step_cases : (o : Option Outstanding) → s.head.play.step ≡ o → P (commit_from s tick given o)
  unfolding commit_from
  step_cases None e = refused (Err (Commit'.OutOfOrder _ _)) (eqb-false 51 0 refl)
  step_cases (Some out) e =
      by_test P (λ _. refused (Err (Commit'.OutOfOrder _ _)) (eqb-false 51 0 refl))
      (λ other. by_test P (λ _. refused (Err (Commit'.DigestMismatch _ _)) (eqb-false 52 0 refl))
      (λ as-due. done out e (sym (eqb-true tick out.tick (not-false (eqb tick out.tick) other))) as-due))

  pub commit_cases : P (commit s tick given)
  unfolding commit
  commit_cases =
      by_test P (λ _. refused (Err Commit'.BadState) (eqb-false 20 0 refl)) (λ _. step_cases s.head.play.step refl)

-- ---- advance

-- an answer that is neither a step nor a stall
abbrev pub is_idle : Advance → Bool
is_idle Advance'.Waiting = true
is_idle (Advance'.Ended o) = true
is_idle Advance'.BadState = true
is_idle (Advance'.Step step) = false
is_idle (Advance'.Stalled tick waiting pumps) = false

module _ (Q : HeadAdvanced → Type 0) (h : Head) (held : ℕ) (rows : List (List ℕ))
    (rests : (a : Advance) → is_idle a ≡ true → Q (idle h a))
    (steps : bad_state h.params ≡ false → h.play.step ≡ None → every_seat h held ≡ true → Q (take_step h rows))
    (stalls : Q (stall h held)) where
  drain_cases : bad_state h.params ≡ false → h.play.step ≡ None → (o : Outcome) → Q (drain h held rows o)
  unfolding drain
  drain_cases g f o = by_test Q (steps g f) (λ _. rests (Advance'.Ended o) refl)

  play_cases : bad_state h.params ≡ false → h.play.step ≡ None → Q (play_on h held rows)
  unfolding play_on
  play_cases g f = by_test Q (λ _. rests Advance'.Waiting refl) (λ _. by_test Q (steps g f) (λ _. stalls))

  outcome_cases : bad_state h.params ≡ false → h.play.step ≡ None → (o : Option Outcome) → Q (advance_by h held rows o)
  unfolding advance_by
  outcome_cases g f (Some (Desynced tick)) = rests (Advance'.Ended (Desynced tick)) refl
  outcome_cases g f (Some (PeerLeft peer tick)) = drain_cases g f (PeerLeft peer tick)
  outcome_cases g f (Some (LeftLocally tick)) = drain_cases g f (LeftLocally tick)
  outcome_cases g f None = play_cases g f

  outstanding_cases : bad_state h.params ≡ false → (o : Option Outstanding) → h.play.step ≡ o
      → Q (advance_from h held rows o)
  unfolding advance_from
  outstanding_cases g (Some out) e = rests Advance'.Waiting refl
  outstanding_cases g None e = outcome_cases g e h.outcome

  pub advance_head_cases : Q (advance_head h held rows)
  unfolding advance_head
  advance_head_cases =
      by_test Q (λ _. rests Advance'.BadState refl) (λ g. outstanding_cases g h.play.step refl)

module _ (P : Advanced → Type 0) (s : Session)
    (rests : (a : Advance) → is_idle a ≡ true → P (advanced s (idle s.head a)))
    (steps : let h = s.head in bad_state h.params ≡ false → h.play.step ≡ None
    → every_seat h (held_by s.window h.play.pending) ≡ true
    → P (advanced s (take_step h (step_rows h s.window))))
    (stalls : P (advanced s (stall s.head (held_by s.window s.head.play.pending)))) where
  pub advance_cases : P (advance s)
  unfolding advance
  advance_cases = advance_head_cases (λ (r : HeadAdvanced). P (advanced s r)) s.head _ _ rests steps stalls

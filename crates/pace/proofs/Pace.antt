-- What a player may count on that asks how many ticks are ready: none are exactly where `advance` would stall; to play
-- one leaves one fewer; a delivery never lowers it; there are at most 64. That 64 is reached is an example of `shown`.
-- Assumes nothing.
use Prim.Native.Nat.{ℕ, suc, ◌+◌, ◌≤◌, ◌<◌}
use mathlib.Core.Path.{◌≡◌, refl, sym, ap, subst, ◌∙◌}
use mathlib.Core.Bool.{Bool, true, false, not, and-false, true≢false}
use mathlib.Core.List.{List}
use native.Mathlib.Omega.{arith}
use lib.Dec.{eqb, leb}
use lib.ListN.{get_or}
use borrow.Author.Tests.{eq-eqb, ne_eqb, le-leb, lt-ltb}
use Rattle.std.specs.Prelude.{None, Ok, Option, Some}
use Rattle.logic.specs.Test.{when◌then◌else◌}
use Rattle.logic.specs.Saturating.{most, raised}
use Rattle.logic.proofs.Cases.{by_test, if_false, decide, case_eq, and_both}
use Rattle.peer.specs.Seats.{seats, has, is_subset}
use Rattle.peer.specs.Cells.{window, slot_of}
use Rattle.peer.proofs.Laws.{has-zero}
use Rattle.peer.proofs.Loops.{every_all, every-not, every_at}
use Rattle.params.specs.Params.{bad_state, roster_of}
use Rattle.params.proofs.Laws.{Sound, sound, has_roster}
use Rattle.wire.specs.declared.Message.{Message}
use Rattle.window.specs.Window.{held_by, is_held, frame_of}
use Rattle.window.specs.declared.Window.{Window}
use Rattle.window.proofs.Laws.{Sized}
use Rattle.session.specs.declared.Outcome.{Outcome}
use Rattle.session.specs.declared.Play.{Play}
use Rattle.session.specs.declared.Head.{Head}
use Rattle.session.specs.declared.Session.{Session}
use Rattle.session.specs.declared.Step.{Step}
use Rattle.session.specs.declared.Advance.{Advance}
use Rattle.session.specs.declared.Advance.TheVariants as Advance'
use Rattle.session.specs.declared.Advanced.{Advanced}
use Rattle.session.specs.declared.Answered.{Answered}
use Rattle.session.specs.Session.{is_over, is_playing, every_seat, ended}
use Rattle.session.specs.Numbers.{Commit, commit_no}
use Rattle.session.specs.Step.{HeadAdvanced, take_step, stepped, stall, play_on, advance_by, advance_from, advance_head}
use Rattle.session.specs.Step.{step_rows, advance, played, judge, keep_digest, commit}
use Rattle.session.proofs.Cases.{is_idle, advance_cases, commit_cases}
use Rattle.shown.specs.Ahead.{is_ready, readiness, ahead, ready_ticks}
use Rattle.shown.proofs.Front.{front_no, front_yes, front_more, front_last, front_same, ahead-most}
use Rattle.deliver.specs.declared.Delivery.{Delivery}
use Rattle.deliver.specs.Deliver.{deliver}
use Rattle.deliver.proofs.Laws.{Fit, deliver_bad, of_delivery, held_stays}

-- a record that is not refused is answered with a number
pub ready_is : (s : Session) → bad_state s.head.params ≡ false → ready_ticks s ≡ Ok (ahead s.head s.window)
unfolding ready_ticks
ready_is s good = if_false _ _ good

-- at most 64
pub at_most_64 : (s : Session) → ahead s.head s.window ≤ 64
at_most_64 s = ahead-most s.head s.window

-- the pending tick is ready where every seat of the roster has its frame for it
pending_ready : (h : Head) (w : Window) → h.play.pending ≤ most
    → is_ready h w (h.play.pending + 0) ≡ every_seat h (held_by w h.play.pending)
unfolding is_ready
pending_ready h w fits =
    let same : h.play.pending + 0 ≡ h.play.pending = omega arith in
    rw (same, le-leb h.play.pending most fits)

-- ---- none are ready exactly where `advance`, with no step out and playing, would stall

abbrev pub stalls : Advance → Bool
stalls (Advance'.Stalled tick waiting pumps) = true
stalls (Advance'.Step step) = false
stalls Advance'.Waiting = false
stalls (Advance'.Ended o) = false
stalls Advance'.BadState = false

some_ready : {n m : ℕ} → n ≡ suc m → eqb n 0 ≡ false
some_ready {n} e = ne_eqb n 0 (λ q. omega arith)

no_outcome : (o : Option Outcome) → not (is_over o) ≡ true → o ≡ None
no_outcome None e = refl
no_outcome (Some o) e = absurd (true≢false (sym e))

module _ (s : Session) (fits : s.head.play.pending ≤ most) (good : bad_state s.head.params ≡ false)
    (free : s.head.play.step ≡ None) (playing : is_playing s.head ≡ true) where
  abbrev h : Head
  h = s.head

  abbrev held : ℕ
  held = held_by s.window s.head.play.pending

  abbrev rows : List (List ℕ)
  rows = step_rows s.head s.window

  -- it goes by the frames alone
  goes : advance_head h held rows ≡ when every_seat h held then take_step h rows else stall h held
  unfolding advance_head advance_from advance_by play_on is_playing
  goes =
      let both = and_both h.marks.started (not (is_over h.outcome)) playing in
      if_false _ _ good ∙ ap (advance_from h held rows) free
      ∙ ap (advance_by h held rows) (no_outcome h.outcome both.1) ∙ if_false _ _ (ap not both.0)

  abbrev Told : HeadAdvanced → Type 0
  Told r = stalls r.answer ≡ eqb (ahead h s.window) 0

  told : Told (when every_seat h held then take_step h rows else stall h held)
  unfolding take_step stall ahead readiness
  told =
      by_test Told
      (λ all. sym (some_ready (front_yes 63 _ (pending_ready h s.window fits ∙ all))))
      (λ gap. sym (eq-eqb _ 0 (front_no window _ (pending_ready h s.window fits ∙ gap))))

  pub none_stalls : stalls (advance s).answer ≡ eqb (ahead s.head s.window) 0
  unfolding advance
  none_stalls = subst Told (sym goes) told

-- ---- playing a tick: a step and its commit

-- the parameters and the window are left as they are, and this tick is pending
record Left (s t : Session) (pending : ℕ) : Type 0 where
  params : t.head.params ≡ s.head.params
  window : t.window ≡ s.window
  at : t.head.play.pending ≡ pending

-- an advance leaves the pending tick, and hands out a step where every seat's frame for it is held
record Advances (s : Session) (r : Advanced) : Type 0 where
  left : Left s r.session s.head.play.pending
  full : (step : Step) → r.answer ≡ Advance'.Step step
      → (bad_state s.head.params ≡ false)
      × (every_seat s.head (held_by s.window s.head.play.pending) ≡ true)

idle_no_step : (a : Advance) (step : Step) → is_idle a ≡ true → a ≡ Advance'.Step step → ⊥
idle_no_step a step e q = true≢false (sym e ∙ ap is_idle q)

advances : (s : Session) → Advances s (advance s)
unfolding take_step stepped stall
advances s =
    advance_cases (Advances s) s
    (λ a e. record {
      left = record { params = refl; window = refl; at = refl };
      full = λ step q. absurd (idle_no_step a step e q);
    })
    (λ good _ all. record { left = record { params = refl; window = refl; at = refl }; full = λ _ _. (good, all) })
    record {
      left = record { params = refl; window = refl; at = refl };
      full = λ step q. absurd (true≢false (ap stalls q));
    }

-- a commit that is not refused raises it
record Commits (s : Session) (r : Answered Commit) : Type 0 where
  left : r.answer ≡ Ok tt → Left s r.session (raised s.head.play.pending)

judge-left : (s : Session) (tick : ℕ) → Left s (judge s tick) s.head.play.pending
unfolding judge ended
judge-left s tick =
    by_test (λ (t : Session). Left s t s.head.play.pending)
    (λ _. record { params = refl; window = refl; at = refl }) (λ _. record { params = refl; window = refl; at = refl })

digest_left : (s : Session) (tick : ℕ) (given : Option ℕ) → Left s (keep_digest s tick given) s.head.play.pending
unfolding keep_digest
digest_left s tick None = record { params = refl; window = refl; at = refl }
digest_left s tick (Some state) =
    let j = judge-left _ tick in record { params = j.params; window = j.window; at = j.at }

commits : (s : Session) (tick : ℕ) (given : Option ℕ) → Commits s (commit s tick given)
unfolding played
commits s tick given =
    commit_cases (Commits s) s tick given (λ a n. record { left = λ q. absurd (n (ap commit_no q)) })
    (λ out _ _ _.
    let d = digest_left _ tick given in
    record { left = λ _. record { params = d.params; window = d.window; at = d.at } })

-- where nobody's frame is held, not every seat's is
none_held : (h : Head) → Sound h.params → every_seat h 0 ≡ false
unfolding every_seat is_subset
none_held h ok =
    let first =
    has_roster h.params 0 (omega arith) ∙ lt-ltb 0 h.params.count (omega (arith, ok.count.least)) in
    every-not seats _ 0 (omega arith) (rw (first, has-zero 0))

-- a tick and the one 64 beyond it share a cell, so not both are ready
beyond : (h : Head) (w : Window) (tick : ℕ) → Sound h.params → every_seat h (held_by w tick) ≡ true
    → is_ready h w (tick + window) ≡ false
unfolding is_ready held_by
beyond h w tick ok all =
    let cell : slot_of (tick + window) ≡ slot_of tick = omega arith in
    let none = none_held h ok in
    case_eq (get_or w.ticks (slot_of tick) 0) tick
    (λ here.
    let gone : eqb (get_or w.ticks (slot_of (tick + window)) 0) (tick + window) ≡ false =
    rw (cell, here) (ne_eqb tick (tick + window) (λ q. omega arith)) in
    rw (if_false _ _ gone, none) (and-false (leb (tick + window) most)))
    (λ other. absurd (true≢false (sym all ∙ ap (every_seat h) (if_false _ _ (ne_eqb _ _ other)) ∙ none)))

-- it goes by the parameters and the window
ready_same : (h k : Head) (w : Window) (tick : ℕ) → k.params ≡ h.params → is_ready k w tick ≡ is_ready h w tick
unfolding is_ready every_seat
ready_same h k w tick e = rw e

module _ (s : Session) (step : Step) (given : Option ℕ)
    (stepped : (advance s).answer ≡ Advance'.Step step)
    (done : (commit (advance s).session step.tick given).answer ≡ Ok tt) where
  abbrev after : Session
  after = (commit (advance s).session step.tick given).session

  left : Left s after (raised s.head.play.pending)
  left =
      let a = (advances s).left in
      let c = (commits (advance s).session step.tick given).left done in
      record { params = c.params ∙ a.params; window = c.window ∙ a.window; at = c.at ∙ ap raised a.at }

  abbrev asked : ℕ → Bool
  asked k = is_ready s.head s.window (s.head.play.pending + k)

  -- what is asked after it, where pending is then so far on
  asked-after : (far : ℕ) → after.head.play.pending ≡ s.head.play.pending + far → (k : ℕ)
      → is_ready after.head after.window (after.head.play.pending + k) ≡ asked (far + k)
  asked-after far at k =
      ready_same s.head after.head after.window _ left.params
      ∙ ap (λ (w : Window). is_ready s.head w (after.head.play.pending + k)) left.window
      ∙ ap (is_ready s.head s.window) (omega arith)

  -- leaves one fewer
  pub one_fewer : s.head.play.pending < most
      → ahead s.head s.window ≡ suc (ahead after.head after.window)
  unfolding ahead readiness raised
  one_fewer low =
      let p = s.head.play.pending in
      let full = (advances s).full step stepped in
      let next : after.head.play.pending ≡ p + 1 = left.at ∙ omega arith in
      front_yes 63 asked (pending_ready s.head s.window (omega arith) ∙ full.1)
      ∙ ap suc (sym (front_same window _ (λ k. asked (suc k)) (λ k _. asked-after 1 next k ∙ ap asked (omega arith))
      ∙ front_last 63 (λ k. asked (suc k)) (beyond s.head s.window p (sound _ full.0) full.1)))

  -- but at the last tick, from which pending does not rise
  pub last_stays : s.head.play.pending ≡ most → ahead after.head after.window ≡ ahead s.head s.window
  unfolding ahead readiness raised
  last_stays last =
      let same : after.head.play.pending ≡ s.head.play.pending + 0 = left.at ∙ omega arith in
      front_same window _ asked (λ k _. asked-after 0 same k ∙ ap asked (omega arith))

-- ---- a delivery never lowers it

module _ (s : Session) (fit : Fit s.head.stats) (sized : Sized s.window) (source : ℕ) (m : Message)
    (run : List ℕ) where
  abbrev heard : Session
  heard = (deliver s source m run).session

  -- every seat's frame for a tick of the window stays
  stays : Sound s.head.params → (tick : ℕ) → s.head.play.pending ≤ tick → tick < s.head.play.pending + window
      → every_seat s.head (held_by s.window tick) ≡ true
      → every_seat s.head (held_by heard.window tick) ≡ true
  unfolding every_seat is_subset is_held
  stays ok tick least greatest all =
      every_all seats _ (λ j low.
      decide (has (roster_of s.head.params) j)
      (λ member.
      let here : is_held s.window j tick ≡ true = rw member at (every_at seats _ all j low) in
      let kept = held_stays s fit source m run ok j tick (frame_of s.window j tick s.head.params.width) low
      least greatest (record { sized = sized; holds = record { held = here; frame = refl } }) in
      rw (member, kept.holds.held))
      (λ stranger. rw stranger))

  -- and so does a tick that is ready
  ready_stays : bad_state s.head.params ≡ false → (tick : ℕ) → s.head.play.pending ≤ tick
      → tick < s.head.play.pending + window → is_ready s.head s.window tick ≡ true
      → is_ready heard.head heard.window tick ≡ true
  unfolding is_ready
  ready_stays good tick least greatest e =
      let both = and_both (leb tick most) (every_seat s.head (held_by s.window tick)) e in
      ready_same s.head heard.head heard.window tick (of_delivery s fit source m run).keeps.params
      ∙ rw both.0 (stays (sound _ good) tick least greatest both.1)

  pub never_lower : ahead s.head s.window ≤ ahead heard.head heard.window
  unfolding ahead readiness
  never_lower =
      decide (bad_state s.head.params)
      (λ bad.
      let same : heard ≡ s = ap (λ (d : Answered Delivery). d.session) (deliver_bad s source m run bad) in
      subst (λ (t : Session). ahead s.head s.window ≤ ahead t.head t.window) (sym same) (omega arith))
      (λ good.
      let at : heard.head.play.pending ≡ s.head.play.pending =
      ap (λ (p : Play). p.pending) (of_delivery s fit source m run).keeps.play in
      front_more window _ _ (λ k l e.
      ap (λ (p : ℕ). is_ready heard.head heard.window (p + k)) at
      ∙ ready_stays good (s.head.play.pending + k) (omega arith) (omega arith) e))

-- What a turn of each loop does: the search for the next seat, and the count of held frames. And a byte of a run.
-- Assumes nothing.
use Prim.Native.Nat.{ℕ, zero, suc, ◌+◌, ◌-◌, ◌*◌, ◌/◌, ◌%◌, ◌<◌, ◌≤◌}
use mathlib.Core.Path.{◌≡◌, refl, sym, ◌∙◌}
use mathlib.Core.Bool.{true, false}
use mathlib.Core.List.{List}
use native.Mathlib.Omega.{arith}
use native.Mathlib.Nat.{mod-lt, div-lt_iff_lt-mul}
use lib.ListN.{get_or, set, replicate, drop, get_or-replicate}
use lib.Seq.{get_or-take, get_or-drop, get_or-set_other, ext_get_or}
use borrow.Author.Tests.{eqb-false, lt-ltb, eq-eqb, ne_eqb}
use Rattle.std.specs.Prelude.{None, Some}
use Rattle.logic.specs.Tabulate.{tabulate}
use Rattle.logic.proofs.Cases.{by_test, case_lt, if_true, if_false}
use Rattle.logic.proofs.Tabulated.{Filled, filled_none, filled_more, length-tabulate, get_or-tabulate}
use Rattle.peer.specs.Seats.{seats, has}
use Rattle.wire.specs.Wire.{redundancy}
use Rattle.window.specs.Window.{is_held, frame_start, frame_of}
use Rattle.window.specs.declared.Window.{Window}
use Rattle.session.specs.declared.Head.{Head}
use Rattle.pump.specs.Pump.{next_remote, span, carried, run_bytes, run_byte}

-- ---- the next seat: this one, one after it, or none

module _ (remotes k : ℕ) where
  pub next_here : k < seats → has remotes k ≡ true → next_remote remotes k (seats - k) ≡ Some k
  unfolding next_remote
  next_here l e = let left : seats - k ≡ suc (seats - (k + 1)) = omega arith in rw left (if_true _ _ e)

  pub next_on : k < seats → has remotes k ≡ false
      → next_remote remotes k (seats - k) ≡ next_remote remotes (k + 1) (seats - (k + 1))
  unfolding next_remote
  next_on l e = let left : seats - k ≡ suc (seats - (k + 1)) = omega arith in rw left (if_false _ _ e)

  pub next_none : seats ≤ k → next_remote remotes k (seats - k) ≡ None
  unfolding next_remote
  next_none l = let left : seats - k ≡ 0 = omega arith in rw left

pub ruleset next_steps = (next_here, next_on, next_none)

-- ---- the frames that are held without a gap

module _ (w : Window) (seat tick n : ℕ) where
  pub span_gone : n < redundancy → is_held w seat tick ≡ false → span w seat tick (redundancy - n) ≡ 0
  unfolding span
  span_gone l e = let left : redundancy - n ≡ suc (redundancy - (n + 1)) = omega arith in rw left (if_false _ _ e)

  pub span_start : n < redundancy → is_held w seat tick ≡ true → tick ≡ 0 → span w seat tick (redundancy - n) ≡ 1
  unfolding span
  span_start l e z =
      let left : redundancy - n ≡ suc (redundancy - (n + 1)) = omega arith in
      rw left (if_true _ _ e ∙ if_true _ _ (eq-eqb tick 0 z))

  pub span_more : n < redundancy → is_held w seat tick ≡ true → (tick ≡ 0 → ⊥)
      → span w seat tick (redundancy - n) ≡ suc (span w seat (tick - 1) (redundancy - (n + 1)))
  unfolding span
  span_more l e z =
      let left : redundancy - n ≡ suc (redundancy - (n + 1)) = omega arith in
      rw left (if_true _ _ e ∙ if_false _ _ (ne_eqb tick 0 z))

  pub span_full : redundancy ≤ n → span w seat tick (redundancy - n) ≡ 0
  unfolding span
  span_full l = let left : redundancy - n ≡ 0 = omega arith in rw left

pub ruleset span_steps = (span_gone, span_start, span_more, span_full)

-- no more than were looked at, and no more than there are ticks
pub span-le : (w : Window) (seat tick n : ℕ) → span w seat tick n ≤ n
unfolding span
span-le w seat tick zero = omega arith
span-le w seat tick (suc n) =
    by_test (λ (x : ℕ). x ≤ suc n)
    (λ _. by_test (λ (x : ℕ). x ≤ suc n) (λ _. omega arith) (λ _. omega (arith, span-le w seat (tick - 1) n)))
    (λ _. omega arith)

pub span_ticks : (w : Window) (seat tick n : ℕ) → span w seat tick n ≤ tick + 1
unfolding span
span_ticks w seat tick zero = omega arith
span_ticks w seat tick (suc n) =
    by_test (λ (x : ℕ). x ≤ tick + 1)
    (λ _.
    by_test (λ (x : ℕ). x ≤ tick + 1) (λ _. omega arith)
    (λ e. let z = eqb-false tick 0 e in omega (arith, span_ticks w seat (tick - 1) n)))
    (λ _. omega arith)

module _ (h : Head) (w : Window) where
  pub carried-le : carried h w ≤ redundancy
  unfolding carried
  carried-le =
      by_test (λ (x : ℕ). x ≤ redundancy) (λ _. omega arith)
      (λ _. span-le w h.params.local (h.play.next_local - 1) redundancy)

  pub carried_next : carried h w ≤ h.play.next_local
  unfolding carried
  carried_next =
      by_test (λ (x : ℕ). x ≤ h.play.next_local) (λ _. omega arith)
      (λ e. let z = eqb-false h.play.next_local 0 e in
      omega (arith, span_ticks w h.params.local (h.play.next_local - 1) redundancy))

-- ---- a byte of a run

module _ (w : Window) (seat first count width j : ℕ) (some : 1 ≤ width) (in_run : j < count * width) where
  pub frame_lt : j / width < count
  frame_lt = (div-lt_iff_lt-mul some).1 in_run

  pub byte_lt : j % width < width
  byte_lt = mod-lt j some

  pub run_byte_is :
      get_or w.ring (frame_start seat (first + j / width) + j % width) 0 ≡ run_byte w seat first count width j
  unfolding run_byte frame_of
  run_byte_is =
      sym
      (if_true _ _ (lt-ltb j (count * width) in_run)
      ∙ get_or-take width (drop (frame_start seat (first + j / width)) w.ring) (j % width) 0 byte_lt
      ∙ get_or-drop (frame_start seat (first + j / width)) w.ring (j % width) 0)

-- ---- a run that a loop fills from the front, and that is zero from there on

pub record RunTo (f : ℕ → ℕ) (n : ℕ) (run : List ℕ) : Type 0 where
  pub front : Filled 0 f run_bytes n run
  pub rest : (k : ℕ) → n ≤ k → k < run_bytes → get_or run k 0 ≡ 0

module _ {f : ℕ → ℕ} where
  pub run_none : RunTo f 0 (replicate run_bytes 0)
  run_none = record { front = filled_none refl; rest = λ k l m. get_or-replicate run_bytes k 0 0 m }

  pub run_more : {n : ℕ} {run : List ℕ} {x : ℕ} → RunTo f n run → n < run_bytes → x ≡ f n
      → RunTo f (n + 1) (set run n x)
  run_more {n} {run} {x} r l e = record {
    front = filled_more r.front l e;
    rest = λ k l m. get_or-set_other run n k x 0 (λ q. omega arith) ∙ r.rest k (omega arith) m;
  }

  -- where nothing but zeros is left to fill
  pub run_whole : {n : ℕ} {run : List ℕ} → RunTo f n run → ((k : ℕ) → n ≤ k → k < run_bytes → f k ≡ 0)
      → run ≡ tabulate run_bytes f
  run_whole {n} {run} r zeros =
      ext_get_or 0 run (tabulate run_bytes f) (r.front.long ∙ sym (length-tabulate run_bytes f)) (λ k l.
      let here : k < run_bytes = omega (arith, l, r.front.long) in
      case_lt k n (λ m. r.front.at k m) (λ m. r.rest k m here ∙ sym (zeros k m here))
      ∙ sym (get_or-tabulate run_bytes f 0 k here))

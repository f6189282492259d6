-- Laws of the run at the front of a list of yes and no, over the length w of the list, and what they say of the ticks
-- that are ready. Assumes nothing.
use Prim.Native.Nat.{ℕ, zero, suc, ◌+◌, ◌≤◌, ◌<◌, suc-le-suc}
use mathlib.Core.Path.{◌≡◌, refl, sym, ap, ◌∙◌}
use mathlib.Core.Bool.{Bool, true, false}
use native.Mathlib.Nat.{zero-lt-suc, le_of_suc-le-suc, not-suc-le-zero}
use native.Mathlib.Omega.{arith}
use Rattle.logic.specs.Tabulate.{tabulate}
use Rattle.logic.proofs.Cases.{decide}
use Rattle.peer.specs.Cells.{window}
use Rattle.window.specs.declared.Window.{Window}
use Rattle.session.specs.declared.Head.{Head}
use Rattle.shown.specs.Ahead.{is_ready, readiness, front_run, ahead}

-- a no at the front, and a yes
pub front_no : (w : ℕ) (f : ℕ → Bool) → f 0 ≡ false → front_run (tabulate w f) ≡ 0
unfolding front_run tabulate
front_no zero f e = refl
front_no (suc w) f e = rw e

pub front_yes : (w : ℕ) (f : ℕ → Bool) → f 0 ≡ true
    → front_run (tabulate (suc w) f) ≡ suc (front_run (tabulate w (λ k. f (suc k))))
unfolding front_run tabulate
front_yes w f e = rw e

-- the run ends at the first gap
front_stops : (w n : ℕ) (f : ℕ → Bool) → ((k : ℕ) → k < n → f k ≡ true) → n ≤ w → f n ≡ false
    → front_run (tabulate w f) ≡ n
front_stops w zero f all l gap = front_no w f gap
front_stops zero (suc n) f all l gap = absurd (not-suc-le-zero l)
front_stops (suc w) (suc n) f all l gap =
    front_yes w f (all 0 (zero-lt-suc n))
    ∙ ap suc (front_stops w n (λ k. f (suc k)) (λ k m. all (suc k) (suc-le-suc m)) (le_of_suc-le-suc l) gap)

-- without one it is the whole
front_all : (w : ℕ) (f : ℕ → Bool) → ((k : ℕ) → k < w → f k ≡ true) → front_run (tabulate w f) ≡ w
unfolding front_run tabulate
front_all zero f all = refl
front_all (suc w) f all =
    front_yes w f (all 0 (zero-lt-suc w)) ∙ ap suc (front_all w (λ k. f (suc k)) (λ k m. all (suc k) (suc-le-suc m)))

-- it is no longer than the list
front_most : (w : ℕ) (f : ℕ → Bool) → front_run (tabulate w f) ≤ w
unfolding front_run tabulate
front_most zero f = omega arith
front_most (suc w) f =
    decide (f 0) (λ first. rw (front_yes w f first) (suc-le-suc (front_most w (λ k. f (suc k)))))
    (λ gap. rw (front_no (suc w) f gap) (omega arith))

-- more yes make no shorter run
pub front_more : (w : ℕ) (f g : ℕ → Bool) → ((k : ℕ) → k < w → f k ≡ true → g k ≡ true)
    → front_run (tabulate w f) ≤ front_run (tabulate w g)
unfolding front_run tabulate
front_more zero f g h = omega arith
front_more (suc w) f g h =
    decide (f 0)
    (λ first. rw (front_yes w f first, front_yes w g (h 0 (zero-lt-suc w) first))
    (suc-le-suc (front_more w (λ k. f (suc k)) (λ k. g (suc k)) (λ k l. h (suc k) (suc-le-suc l)))))
    (λ gap. rw (front_no (suc w) f gap) (omega arith))

-- the same answers make the same run
pub front_same : (w : ℕ) (f g : ℕ → Bool) → ((k : ℕ) → k < w → f k ≡ g k)
    → front_run (tabulate w f) ≡ front_run (tabulate w g)
unfolding front_run tabulate
front_same zero f g e = refl
front_same (suc w) f g e =
    decide (g 0)
    (λ first. front_yes w f (e 0 (zero-lt-suc w) ∙ first)
    ∙ ap suc (front_same w (λ k. f (suc k)) (λ k. g (suc k)) (λ k l. e (suc k) (suc-le-suc l)))
    ∙ sym (front_yes w g first))
    (λ gap. front_no (suc w) f (e 0 (zero-lt-suc w) ∙ gap) ∙ sym (front_no (suc w) g gap))

-- a no at the end adds nothing
pub front_last : (w : ℕ) (f : ℕ → Bool) → f w ≡ false → front_run (tabulate (suc w) f) ≡ front_run (tabulate w f)
front_last zero f last = front_no 1 f last ∙ sym (front_no 0 f last)
front_last (suc w) f last =
    decide (f 0)
    (λ first. front_yes (suc w) f first ∙ ap suc (front_last w (λ k. f (suc k)) last) ∙ sym (front_yes w f first))
    (λ gap. front_no (suc (suc w)) f gap ∙ sym (front_no (suc w) f gap))

-- ---- so it is of ticks

-- no more are ready than the window has
pub ahead-most : (h : Head) (w : Window) → ahead h w ≤ window
unfolding ahead readiness
ahead-most h w = front_most window _

-- the first n are, and the next is not, or there is none
module _ (h : Head) (w : Window) (n : ℕ) (all : (k : ℕ) → k < n → is_ready h w (h.play.pending + k) ≡ true) where
  abbrev asked : ℕ → Bool
  asked k = is_ready h w (h.play.pending + k)

  pub ahead_stops : n ≤ window → is_ready h w (h.play.pending + n) ≡ false → ahead h w ≡ n
  unfolding ahead readiness
  ahead_stops l gap = front_stops window n asked all l gap

  pub ahead_full : window ≤ n → ahead h w ≡ window
  unfolding ahead readiness
  ahead_full l = front_all window asked (λ k m. all k (omega arith))

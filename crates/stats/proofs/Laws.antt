-- What a delivery's answer does to the counters: none falls, and an answer leaves the counters that are not its own.
-- Assumes nothing.
use Prim.Native.Nat.{ℕ, ◌≤◌}
use mathlib.Core.Path.{◌≡◌}
use mathlib.Core.Logic.{◌≢◌}
use mathlib.Core.Bool.{Bool, false}
use native.Mathlib.Omega.{arith}
use borrow.Author.Tests.{ne_eqb}
use Rattle.logic.specs.Saturating.{most, raised}
use Rattle.logic.proofs.Cases.{by_test, if_false}
use Rattle.stats.specs.declared.SessionStats.{SessionStats}
use Rattle.stats.specs.Stats.{raised_if, counted_of}

-- R holds of each counter of s and the same counter of r
pub record Each (R : ℕ → ℕ → Type 0) (s r : SessionStats) : Type 0 where
  pub refused : R s.datagrams_refused r.datagrams_refused
  pub repeated : R s.frames_repeated r.frames_repeated
  pub contradicted : R s.frames_contradicted r.frames_contradicted
  pub beyond : R s.frames_out_of_window r.frames_out_of_window
  pub digests : R s.digests_contradicted r.digests_contradicted
  pub stalls : R s.stall_pumps r.stall_pumps

rises : (b : Bool) (n : ℕ) → n ≤ most → n ≤ raised_if b n
unfolding raised_if raised
rises b n h = by_test (λ (r : ℕ). n ≤ r) (λ _. omega arith) (λ _. omega arith)

-- no counter falls; that each is at most 2^64-1 is so of every real record
pub counted_rises : (s : SessionStats) (n : ℕ) → Each (λ c _. c ≤ most) s s → Each ◌≤◌ s (counted_of s n)
unfolding counted_of
counted_rises s n h = record {
  refused = rises _ _ h.refused;
  repeated = omega arith;
  contradicted = rises _ _ h.contradicted;
  beyond = rises _ _ h.beyond;
  digests = rises _ _ h.digests;
  stalls = omega arith;
}

-- the three counters of 27, 28 and 30
pub record SameNotes (s r : SessionStats) : Type 0 where
  pub beyond : r.frames_out_of_window ≡ s.frames_out_of_window
  pub contradicted : r.frames_contradicted ≡ s.frames_contradicted
  pub digests : r.digests_contradicted ≡ s.digests_contradicted

unraised : (b : Bool) (n : ℕ) → b ≡ false → raised_if b n ≡ n
unfolding raised_if
unraised b n e = if_false (raised n) n e

-- another answer leaves them
pub counted_others : (s : SessionStats) (n : ℕ) → n ≢ 27 → n ≢ 28 → n ≢ 30 → SameNotes s (counted_of s n)
unfolding counted_of
counted_others s n beyond contradicted digests = record {
  beyond = unraised _ _ (ne_eqb n 27 beyond);
  contradicted = unraised _ _ (ne_eqb n 28 contradicted);
  digests = unraised _ _ (ne_eqb n 30 digests);
}

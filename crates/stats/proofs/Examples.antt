-- Both sides of each number that counts, and of the end at 2^64-1, computed from the definitions: one table under a
-- single proof for each call. Assumes nothing.
use mathlib.Core.Path.{◌≡◌, refl}
use mathlib.Core.Bool.{true, false}
use mathlib.Core.List.{[], ◌∷◌}
use Prim.Native.Nat.{ℕ}
use Rattle.logic.specs.Test.{when◌then◌else◌}
use Rattle.logic.specs.Range.{outside}
use Rattle.logic.specs.Saturating.{most, raised}
use Rattle.stats.specs.declared.SessionStats.{SessionStats}
use Rattle.stats.specs.Stats.{raised_if, no_stats, counted_of, stalled_of}

of : (refused repeated contradicted beyond digests stalls : ℕ) → SessionStats
of refused repeated contradicted beyond digests stalls = record {
  datagrams_refused = refused;
  frames_repeated = repeated;
  frames_contradicted = contradicted;
  frames_out_of_window = beyond;
  digests_contradicted = digests;
  stall_pumps = stalls;
}

-- each counter at n
all : ℕ → SessionStats
all n = of n n n n n n

-- one below the end
last : ℕ
last = 18446744073709551614

numbers :
    counted_of no_stats 0 ∷ counted_of no_stats 20 ∷ counted_of no_stats 21 ∷ counted_of no_stats 26
    ∷ counted_of no_stats 27 ∷ counted_of no_stats 28 ∷ counted_of no_stats 29 ∷ counted_of no_stats 30
    ∷ counted_of no_stats 31 ∷ counted_of no_stats 32 ∷ counted_of (of 5 4 3 2 1 9) 28
    ∷ counted_of (all last) 27 ∷ counted_of (all last) 28 ∷ counted_of (all last) 30
    ∷ counted_of (all most) 27 ∷ counted_of (all most) 28 ∷ counted_of (all most) 30
    ∷ []
    ≡ all 0 ∷ all 0 ∷ of 1 0 0 0 0 0 ∷ of 1 0 0 0 0 0
    ∷ of 1 0 0 1 0 0 ∷ of 1 0 1 0 0 0 ∷ of 1 0 0 0 0 0 ∷ of 1 0 0 0 1 0
    ∷ of 1 0 0 0 0 0 ∷ all 0 ∷ of 6 4 4 2 1 9
    ∷ of most last last most last last ∷ of most last most last last last ∷ of most last last last most last
    ∷ all most ∷ all most ∷ all most
    ∷ []
unfolding of all last no_stats counted_of raised_if raised outside when◌then◌else◌
numbers = refl

stalls :
    stalled_of no_stats false ∷ stalled_of no_stats true ∷ stalled_of (all 7) true ∷ stalled_of (all 7) false
    ∷ stalled_of (all last) true ∷ stalled_of (all most) true ∷ stalled_of (all most) false
    ∷ []
    ≡ of 0 0 0 0 0 1 ∷ of 0 0 0 0 0 1 ∷ of 7 7 7 7 7 8 ∷ of 7 7 7 7 7 1
    ∷ of last last last last last most ∷ all most ∷ of most most most most most 1
    ∷ []
unfolding of all last no_stats stalled_of raised when◌then◌else◌
stalls = refl

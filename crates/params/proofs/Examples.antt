-- Examples at both sides of each limit of 11 to 16 and of which refusal goes first, computed from the definitions.
-- Assumes nothing.
use mathlib.Core.Path.{◌≡◌, refl}
use mathlib.Core.List.{[], ◌∷◌}
use Prim.Native.Nat.{ℕ, ◌+◌, ◌-◌}
use Rattle.peer.specs.Seats.{seats}
use Rattle.logic.specs.Test.{when◌then◌else◌}
use Rattle.logic.specs.Range.{outside}
use Rattle.params.specs.declared.SessionParams.{SessionParams}
use Rattle.params.specs.Params.{validity, validity_no}

of : (count local width delay period session : ℕ) → SessionParams
of count local width delay period session = record {
  count = count;
  local = local;
  width = width;
  delay = delay;
  period = period;
  seed = 0;
  content = 0;
  rules = 0;
  session = session;
}

check : (count local width delay period session : ℕ) → ℕ
check count local width delay period session = validity_no (validity (of count local width delay period session))

limits :
    check 1 0 1 0 1 1 ∷ check 2 0 1 0 1 1 ∷ check seats 0 1 0 1 1 ∷ check (seats + 1) 0 1 0 1 1
    ∷ check 2 1 1 0 1 1 ∷ check 2 2 1 0 1 1 ∷ check seats (seats - 1) 1 0 1 1 ∷ check seats seats 1 0 1 1
    ∷ check 2 0 0 0 1 1 ∷ check 2 0 16 0 1 1 ∷ check 2 0 17 0 1 1
    ∷ check 2 0 1 63 1 1 ∷ check 2 0 1 64 1 1
    ∷ check 2 0 1 0 0 1 ∷ check 2 0 1 0 255 1
    ∷ check 2 0 1 0 1 0 ∷ check 2 0 1 0 1 18446744073709551615
    ∷ check (seats + 1) (seats + 1) 0 64 0 0 ∷ check 2 9 0 64 0 0 ∷ check 2 0 0 64 0 0
    ∷ check 2 0 1 64 0 0 ∷ check 2 0 1 63 0 0
    ∷ []
    ≡ 11 ∷ 0 ∷ 0 ∷ 11
    ∷ 0 ∷ 12 ∷ 0 ∷ 12
    ∷ 13 ∷ 0 ∷ 13
    ∷ 0 ∷ 14
    ∷ 15 ∷ 0
    ∷ 16 ∷ 0
    ∷ 11 ∷ 12 ∷ 13
    ∷ 14 ∷ 15
    ∷ []
unfolding of check validity outside when◌then◌else◌
limits = refl

-- The front of a list, and a part of it, at numbers past the list's end too. Assumes nothing.
use Prim.Native.Nat.{ℕ, ◌-◌, min}
use mathlib.Core.Path.{◌≡◌, sym, ◌∙◌}
use mathlib.Core.List.{List}
use native.Mathlib.Omega.{arith}
use lib.ListN.{length, take, drop, length-drop, drop_of_length-le}
use lib.Seq.{take-length, take_all, drop-length}
use Rattle.logic.proofs.Cases.{case_lt}

pub take_min : (n : ℕ) (xs : List ℕ) → take (min n (length xs)) xs ≡ take n xs
take_min n xs =
    case_lt n (length xs)
    (λ l. let e : min n (length xs) ≡ n = omega arith in rw e)
    (λ l. let e : min n (length xs) ≡ length xs = omega arith in rw (e, take-length) (sym (take_all n xs l)))

drop_min : (n : ℕ) (xs : List ℕ) → drop (min n (length xs)) xs ≡ drop n xs
drop_min n xs =
    case_lt n (length xs)
    (λ l. let e : min n (length xs) ≡ n = omega arith in rw e)
    (λ l. let e : min n (length xs) ≡ length xs = omega arith in rw (e, drop-length) (sym (drop_of_length-le xs l)))

-- of n elements from `at` on, those that are there
pub part_min : (at n : ℕ) (xs : List ℕ)
    → let from = min at (length xs) in take (min n (length xs - from)) (drop from xs) ≡ take n (drop at xs)
part_min at n xs =
    let from = min at (length xs) in
    rw (← length-drop from xs) (take_min n (drop from xs) ∙ rw (drop_min at xs))

-- A part of a list as a slice's range has it, and reading a part of a list in which another list was pasted. Assumes
-- nothing.
use Prim.Native.Nat.{ℕ, ◌+◌, ◌-◌, ◌≤◌, min}
use mathlib.Core.Path.{◌≡◌, ap, sym, ◌∙◌}
use mathlib.Core.List.{List, ◌++◌, append_assoc}
use native.Mathlib.Omega.{arith}
use lib.ListN.{length, take, drop, take-append-drop, length-drop}
use lib.Seq.{paste, take-append-le, drop-append-le, drop-drop, drop-paste, take_at, drop_at, length-take-le}
use Rattle.logic.proofs.Fronts.{part_min}

-- of n elements from `at` on, those that are there, by where they start and end
pub part_to : (at n : ℕ) (xs : List ℕ) (from to : ℕ) → from ≡ min at (length xs) → to ≡ min (from + n) (length xs)
    → take (to - from) (drop from xs) ≡ take n (drop at xs)
part_to at n xs from to e f =
    let long : to - from ≡ min n (length xs - from) = omega arith in
    rw (long, e) (part_min at n xs)

module _ (d : List ℕ) (at : ℕ) (s : List ℕ) (n : ℕ) (fits : at + n ≤ length d) (long : n ≤ length s) where
  -- the part that was pasted
  pub read_pasted : take n (drop at (paste d at s n)) ≡ take n s
  read_pasted =
      rw (
        append_assoc (take at d) (take n s) (drop (at + n) d),
        drop_at (take at d) (take n s ++ drop (at + n) d) at (length-take-le at d (omega arith)),
      )
      (take_at (take n s) (drop (at + n) d) n (length-take-le n s long))

  -- a part that ends before
  pub read_before : (b m : ℕ) → b + m ≤ at → take m (drop b (paste d at s n)) ≡ take m (drop b d)
  read_before b m h =
      let p = take at d in
      let len : length p ≡ at = length-take-le at d (omega arith) in
      let front : (q : List ℕ) → take m (drop b (p ++ q)) ≡ take m (drop b p) =
      λ q. rw (drop-append-le b p q (omega arith)) (take-append-le m (drop b p) q (rw length-drop (omega arith))) in
      rw (append_assoc p (take n s) (drop (at + n) d), front (take n s ++ drop (at + n) d))
      (sym (front (drop at d)) ∙ ap (λ (l : List ℕ). take m (drop b l)) (take-append-drop at d))

  -- a part that starts after
  pub read_after : (b m : ℕ) → at + n ≤ b → take m (drop b (paste d at s n)) ≡ take m (drop b d)
  read_after b m h =
      let k : (at + n) + (b - (at + n)) ≡ b = omega arith in
      ap (take m)
      (rw (← k, ← drop-drop (b - (at + n)) (at + n) (paste d at s n), ← drop-drop (b - (at + n)) (at + n) d)
      (ap (drop (b - (at + n))) (drop-paste d at s n (omega arith) long)))

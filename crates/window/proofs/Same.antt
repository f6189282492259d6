-- `same_bytes` is the equality of lists, and what `==` of two slices of bytes answers. Assumes nothing.
use Prim.Native.Nat.{ℕ}
use mathlib.Core.Path.{◌≡◌, refl}
use mathlib.Core.List.{List, [], ◌∷◌}
use mathlib.Core.Bool.{true, false≢true}
use lib.Dec.{eqb}
use lib.Pointwise.{pointwise}
use borrow.Author.Tests.{eqb-true, eq-eqb}
use Rattle.logic.proofs.Cases.{and_both}
use Rattle.window.specs.Absorb.{same_bytes}

pub same_refl : (l : List ℕ) → same_bytes l l ≡ true
unfolding same_bytes
same_refl [] = refl
same_refl (x ∷ xs) = simp (eq-eqb x x refl, same_refl xs)

pub same_eq : (a b : List ℕ) → same_bytes a b ≡ true → a ≡ b
unfolding same_bytes
same_eq [] [] e = refl
same_eq [] (y ∷ ys) e = absurd (false≢true e)
same_eq (x ∷ xs) [] e = absurd (false≢true e)
same_eq (x ∷ xs) (y ∷ ys) e =
    let p = and_both (eqb x y) (same_bytes xs ys) e in
    cc (eqb-true x y p.0, same_eq xs ys p.1)

-- what `==` of two slices answers
pub same_is : (a b : List ℕ) → pointwise eqb a b ≡ same_bytes a b
unfolding same_bytes
same_is [] [] = refl
same_is [] (y ∷ ys) = refl
same_is (x ∷ xs) [] = refl
same_is (x ∷ xs) (y ∷ ys) = rw (same_is xs ys)

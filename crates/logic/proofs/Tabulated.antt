-- A list that is said element by element, and one that a loop fills from the front. At any type of element, so the laws
-- serve bytes and rows of bytes. Assumes nothing.
use mathlib.Core.Path.{◌≡◌, refl, sym, ap, ◌∙◌, subst}
use mathlib.Core.Logic.{inl, inr}
use mathlib.Core.List.{List}
use Prim.Native.Nat.{ℕ, zero, suc, ◌+◌, ◌<◌, ◌≤◌}
use native.Mathlib.Omega.{arith}
use native.Mathlib.Nat.{eq-or-lt_of_le}
use lib.ListN.{length, get_or, set, length-set}
use lib.Seq.{get_or-set_same, get_or-set_other, ext_get_or}
use Rattle.logic.specs.Tabulate.{tabulate}

pub length-tabulate : {A : Type 0} (n : ℕ) (f : ℕ → A) → length (tabulate n f) ≡ n
unfolding tabulate
length-tabulate zero f = refl
length-tabulate (suc n) f = ap suc (length-tabulate n (λ k. f (suc k)))

pub get_or-tabulate : {A : Type 0} (n : ℕ) (f : ℕ → A) (d : A) (k : ℕ) → k < n → get_or (tabulate n f) k d ≡ f k
unfolding tabulate
get_or-tabulate zero f d k h = absurd (omega arith)
get_or-tabulate (suc n) f d zero h = refl
get_or-tabulate (suc n) f d (suc k) h = get_or-tabulate n (λ j. f (suc j)) d k (omega arith)

-- m elements, of which the first n are f 0, f 1, ..
pub record Filled {A : Type 0} (d : A) (f : ℕ → A) (m n : ℕ) (xs : List A) : Type 0 where
  pub long : length xs ≡ m
  pub most : n ≤ m
  pub at : (k : ℕ) → k < n → get_or xs k d ≡ f k

module _ {A : Type 0} {d : A} {f : ℕ → A} {m : ℕ} where
  pub filled_none : {xs : List A} → length xs ≡ m → Filled d f m 0 xs
  filled_none h = record { long = h; most = omega arith; at = λ k l. absurd (omega arith) }

  pub filled_more : {n : ℕ} {xs : List A} {x : A} → Filled d f m n xs → n < m → x ≡ f n
      → Filled d f m (n + 1) (set xs n x)
  filled_more {n} {xs} {x} u h e = record {
    long = length-set xs n x ∙ u.long;
    most = omega arith;
    at = λ k l. elim (eq-or-lt_of_le {n = k} {m = n} (omega arith)) [
      | inl p ↦ subst (λ (j : ℕ). get_or (set xs n x) j d ≡ f j) (sym p) (get_or-set_same xs n x d (omega arith) ∙ e)
      | inr p ↦ get_or-set_other xs n k x d (λ q. omega arith) ∙ u.at k p
    ];
  }

  pub filled_all : {n : ℕ} {xs : List A} → Filled d f m n xs → m ≤ n → xs ≡ tabulate m f
  filled_all {n} {xs} u h =
      ext_get_or d xs (tabulate m f) (u.long ∙ sym (length-tabulate m f))
      (λ k l. u.at k (omega arith) ∙ sym (get_or-tabulate m f d k (omega arith)))

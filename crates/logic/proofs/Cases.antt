-- Cases on a test that a definition makes, each with the test's equation in hand.
-- Assumes nothing.
use Prim.Native.Nat.{ℕ, ◌<◌, ◌≤◌}
use mathlib.Core.Path.{◌≡◌, refl}
use mathlib.Core.Logic.{◌≢◌}
use mathlib.Core.Bool.{Bool, true, false, ◌&&◌, ◌||◌, true≢false, false≢true}
use lib.Dec.{eqb, ltb}
use borrow.Author.Tests.{eqb-true, eqb-false, ltb-true, ltb-false}
use Rattle.logic.specs.Test.{when◌then◌else◌}

-- the case rule: what holds of both arms holds of the whole
pub by_test {ℓ κ} : {A : Type ℓ} (P : A → Type κ) {b : Bool} {x y : A} → (b ≡ true → P x) → (b ≡ false → P y)
    → P (when b then x else y)
unfolding when◌then◌else◌
by_test P {b = true} f g = f refl
by_test P {b = false} f g = g refl

pub if_true {ℓ} : {A : Type ℓ} {b : Bool} (x y : A) → b ≡ true → when b then x else y ≡ x
unfolding when◌then◌else◌
if_true x y e = rw (e, when◌then◌else◌)

pub if_false {ℓ} : {A : Type ℓ} {b : Bool} (x y : A) → b ≡ false → when b then x else y ≡ y
unfolding when◌then◌else◌
if_false x y e = rw (e, when◌then◌else◌)

pub if_same {ℓ} : {A : Type ℓ} (b : Bool) (x : A) → when b then x else x ≡ x
unfolding when◌then◌else◌
if_same true x = refl
if_same false x = refl

-- decisions of a proof's own
pub decide {κ} : {G : Type κ} (b : Bool) → (b ≡ true → G) → (b ≡ false → G) → G
decide true f g = f refl
decide false f g = g refl

pub case_eq {κ} : {G : Type κ} (a b : ℕ) → (a ≡ b → G) → (a ≢ b → G) → G
case_eq a b f g = decide (eqb a b) (λ e. f (eqb-true a b e)) (λ e. g (eqb-false a b e))

pub case_lt {κ} : {G : Type κ} (a b : ℕ) → (a < b → G) → (b ≤ a → G) → G
case_lt a b f g = decide (ltb a b) (λ e. f (ltb-true a b e)) (λ e. g (ltb-false a b e))

-- both of two tests, and neither
pub and_both : (a b : Bool) → a && b ≡ true → (a ≡ true) × (b ≡ true)
and_both true b e = (refl, e)
and_both false b e = absurd (false≢true e)

pub or_neither : (a b : Bool) → a || b ≡ false → (a ≡ false) × (b ≡ false)
or_neither true b e = absurd (true≢false e)
or_neither false b e = (refl, e)

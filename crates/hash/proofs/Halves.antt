-- A product of two numbers of two digits each in any base P, modulo P * P, by its three lower products.
-- Assumes nothing.
use Rattle.std.proofs.Common.{◌≡◌, ℕ, ◌+◌, ◌*◌, ◌/◌, ◌%◌, sym, refl, ap, ◌∙◌, ap₂, add_assoc, mul_assoc, mul_comm, add-mul, add_comm, div-add-mod', mul-add, mul_left_comm}
use native.Mathlib.Nat.{add_left_comm}
use native.Mathlib.Nat.{add-mod-mod, mul-add-mod_self_right}

-- a factor may be reduced before the product is
pub mod_mul_mod : (x y m : ℕ) → x % m * y % m ≡ x * y % m
mod_mul_mod x y m =
    sym (mul-add-mod_self_right (x / m * y) m (x % m * y)) ∙ ap (λ (n : ℕ). n % m) (regroup (x / m) (x % m))
    ∙ ap (λ (n : ℕ). n * y % m) (div-add-mod' x m)
  where
    regroup : (q r : ℕ) → q * y * m + r * y ≡ (q * m + r) * y
    regroup q r = simp (add-mul, mul_assoc, mul_comm, mul_left_comm) refl

-- the product of the upper digits is a multiple of P * P
digits : (P a₀ a₁ b₀ b₁ : ℕ) → (a₁ * P + a₀) * (b₁ * P + b₀) ≡ a₁ * b₁ * (P * P) + (a₀ * b₀ + (a₁ * b₀ + a₀ * b₁) * P)
digits P a₀ a₁ b₀ b₁ =
    simp (mul-add, add-mul, mul_assoc, mul_comm, mul_left_comm, add_assoc, add_comm, add_left_comm) refl

-- what a wrapping product computes: the low product, and the cross products one digit up, each step modulo P * P
pub halves : (P a b : ℕ)
    → (a % P * (b % P) + (a / P * (b % P) + a % P * (b / P)) % (P * P) * P % (P * P)) % (P * P) ≡ a * b % (P * P)
halves P a b =
    rw (mod_mul_mod, add-mod-mod)
    (sym (mul-add-mod_self_right (a / P * (b / P)) (P * P) _)
    ∙ ap (λ (n : ℕ). n % (P * P)) (sym (digits P (a % P) (a / P) (b % P) (b / P)))
    ∙ ap₂ (λ (x y : ℕ). x * y % (P * P)) (div-add-mod' a P) (div-add-mod' b P))

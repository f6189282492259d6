-- `when b then x else y`, shut: a definition that tests stays a tree of calls of it until a proof takes a case
-- (proofs/Cases.antt). Assumes nothing.
use Rattle.std.specs.Prelude.{Bool, true, false}

infixr 10 when◌then◌else◌
module _ {ℓ} {A : Type ℓ} where
  unfoldable pub when◌then◌else◌ : Bool → A → A → A
  when◌then◌else◌ true x y = x
  when◌then◌else◌ false x y = y

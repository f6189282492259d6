-- The number of how many ticks are ready, as an answer of its type has it: 0, or 20 for a bad record. Assumes nothing.
use mathlib.Core.Path.{◌≡◌, refl}
use Prim.Native.Nat.{ℕ}
use Rattle.std.specs.Prelude.{Result, Ok, Err}
use Rattle.logic.specs.Numbered.{result_no}
use Rattle.params.specs.declared.BadState.{BadState}
use Rattle.shown.specs.Ahead.{ready_no}

ready_number : (r : Result ℕ BadState) → result_no (λ _. 0) (λ _. 20) r ≡ ready_no r
ready_number (Ok n) = refl
ready_number (Err bad) = refl

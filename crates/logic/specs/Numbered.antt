-- Document 01, "Numbers given back", of a call that is done or refused: the number of what it gives.
-- Assumes nothing.
use Rattle.std.specs.Prelude.{ℕ, Result, Ok, Err}

-- done or accepted, whatever it gives
abbrev pub done_no : {A : Type 0} → A → ℕ
done_no given = 0

-- the number of an answer is that of what stands in it
abbrev pub result_no : {A E : Type 0} → (A → ℕ) → (E → ℕ) → Result A E → ℕ
result_no done refused (Ok x) = done x
result_no done refused (Err e) = refused e

-- Laws of copying a text to a lent buffer: its two cases.
-- Assumes nothing.
use Prim.Native.Nat.{ℕ, ◌≤◌, ◌<◌}
use mathlib.Core.Path.{◌≡◌, sym, ◌∙◌}
use mathlib.Core.List.{List, ◌++◌}
use native.Mathlib.Omega.{arith}
use borrow.Author.Tests.{le-leb, lt-leb}
use lib.ListN.{length, drop}
use Rattle.logic.proofs.Cases.{if_true, if_false}
use Rattle.text.specs.Text.{copy_answer, copy_into, Copies}
use Rattle.std.specs.Prelude.{Result, Ok, Err}
use Rattle.text.specs.declared.NoRoom.{NoRoom}

module _ (text out : List ℕ) where
  pub no_room : length out < length text → Copies text out (Err (record {})) out
  unfolding copy_answer copy_into
  no_room l =
      let f = lt-leb (length text) (length out) l in
      record { answered = sym (if_false _ _ f); lent = sym (if_false _ _ f) }

  pub with_room : (n : ℕ) (after : List ℕ) → length text ≡ n → n ≤ length out → after ≡ text ++ drop n out
      → Copies text out (Ok n) after
  unfolding copy_answer copy_into
  with_room n after e l a =
      let f = le-leb (length text) (length out) (omega arith) in
      record { answered = rw (if_true _ _ f, e); lent = rw (if_true _ _ f, e) a }

-- the promise fixes the answer and every lent byte: two that meet it are equal
pub copies_one : {text out : List ℕ} {a b : Result ℕ NoRoom} {after other : List ℕ} → Copies text out a after
    → Copies text out b other → (a ≡ b) × (after ≡ other)
copies_one x y = (x.answered ∙ sym y.answered, x.lent ∙ sym y.lent)

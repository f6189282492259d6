-- Laws of the lines: a step's fields row by row, and what the search proves the writers by. Assumes nothing.
use Prim.Native.Nat.{ℕ, zero, suc, ◌+◌, ◌-◌, ◌≤◌, ◌<◌, min}
use mathlib.Core.Path.{◌≡◌, refl, sym, ◌∙◌}
use mathlib.Core.Bool.{Bool, true, false}
use mathlib.Core.List.{List, [], ◌∷◌, ◌++◌}
use native.Mathlib.Numerals.{add-one}
use native.Mathlib.Omega.{arith}
use lib.ListN.{length, drop, get_or, drop_of_length-le}
use lib.Seq.{drop-cons}
use Rattle.logic.proofs.Cases.{case_lt}
use Rattle.text.specs.Text.{put, join, puts, total}
use Rattle.text.proofs.Writing.{put-join, join-length, put_said}
use Rattle.text.proofs.Decimals.{decimal_20}
use Rattle.lines.specs.Lines.{Says, line_limit, numbered, flag_text, field_text, field_texts}
use Rattle.lines.specs.Lines.{open_line, deliver_line, commit_line, leave_line, advance_line, bad_line, none_line, cut_line}
use Rattle.lines.specs.Lines.{outcome_text, body_text, ready_line}

-- what a line is defined by, as one name: under it the search proves most of the crate
unfoldable pub lines : Unit {0}
unfolding flag_text outcome_text body_text ready_line
    open_line deliver_line commit_line leave_line advance_line bad_line none_line cut_line
lines = tt

-- two laws of texts by names that a `using` of the source can say
pub written : (text q : List ℕ) (qs : List (List ℕ)) → put text (join (q ∷ qs)) ≡ puts (put text q) qs
written = put-join

pub of_length : (ps : List (List ℕ)) → length (join ps) ≡ total ps
of_length = join-length

fields_nil : (count width : ℕ) → field_texts count width [] ≡ []
unfolding field_texts
fields_nil zero width = refl
fields_nil (suc count) width = refl

module _ (count width : ℕ) (rows : List (List ℕ)) (k : ℕ) where
  -- row k, then those after it
  pub fields_row : k < count → k < length rows
      → field_texts (count - k) width (drop k rows)
      ≡ field_text width (get_or rows k []) ++ field_texts (count - (k + 1)) width (drop (k + 1) rows)
  unfolding field_texts
  fields_row below inside =
      let left : count - k ≡ suc (count - suc k) = omega arith in
      rw (add-one, left, drop-cons rows k [] inside)

  -- nothing is left past the roster or past the last row
  pub fields_end : min count (length rows) ≤ k → field_texts (count - k) width (drop k rows) ≡ []
  unfolding field_texts
  fields_end past =
      case_lt k count
      (λ l. let all : length rows ≤ k = omega arith in rw (drop_of_length-le rows all, fields_nil))
      (λ l. let none : count - k ≡ 0 = omega arith in rw none)

pub flag_one : (on : Bool) → length (flag_text on) ≡ 1
unfolding flag_text
flag_one true = refl
flag_one false = refl

pub numbered-length : (name : List ℕ) (n : ℕ) → length name ≤ 16 → n < 256 → length (numbered name n) ≤ 100
unfolding numbered
numbered-length name n h l = rw join-length (omega (arith, decimal_20 n (omega arith)))

-- what was written into a text that was cleared is the line
pub says : {line begun text : List ℕ} → begun ≡ [] → text ≡ put begun line → length line ≤ line_limit → Says line text
says {line} {begun} {text} e w h = record { said = put_said line (omega arith) (rw e at w); fits = h }

-- the promise fixes the text: two that meet it are equal
pub says_one : {line a b : List ℕ} → Says line a → Says line b → a ≡ b
says_one x y = x.said ∙ sym y.said

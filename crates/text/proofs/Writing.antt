-- Laws of writing: pieces one after the other are their bytes joined; with room the text is the old one and the new
-- bytes. Assumes nothing.
use Prim.Native.Nat.{ℕ, zero, suc, ◌+◌, ◌≤◌}
use mathlib.Core.Path.{◌≡◌, refl, sym, ap, ◌∙◌}
use mathlib.Core.List.{List, [], ◌∷◌, ◌++◌, append_assoc, append-nil}
use native.Mathlib.Omega.{arith}
use lib.ListN.{length, take, length-append}
use lib.Seq.{take_all}
use Rattle.text.specs.Text.{text_limit, put_within, put, join, puts, total}

-- ---- within any limit

pub cut_twice : (n : ℕ) (xs ys : List ℕ) → take n (xs ++ ys) ≡ take n (take n xs ++ ys)
cut_twice zero xs ys = refl
cut_twice (suc n) [] ys = refl
cut_twice (suc n) (x ∷ xs) ys = ap (λ (zs : List ℕ). x ∷ zs) (cut_twice n xs ys)

module _ (limit : ℕ) (text : List ℕ) where
  pub within_append : (xs ys : List ℕ) → put_within limit text (xs ++ ys) ≡ put_within limit (put_within limit text xs) ys
  unfolding put_within
  within_append xs ys = ap (take limit) (sym (append_assoc text xs ys)) ∙ cut_twice limit (text ++ xs) ys

  -- with room the text is the old one and the new bytes
  pub within_room : (xs : List ℕ) → length text + length xs ≤ limit → put_within limit text xs ≡ text ++ xs
  unfolding put_within
  within_room xs h = take_all limit (text ++ xs) (rw length-append h)

-- ---- pieces of a text

pub put-append : (text xs ys : List ℕ) → put text (xs ++ ys) ≡ put (put text xs) ys
put-append = within_append text_limit

-- nothing more behind what was written
pub put_nil : (text xs : List ℕ) → put (put text xs) [] ≡ put text xs
put_nil text xs = sym (put-append text xs []) ∙ rw append-nil

-- which is how a loop over pieces starts
pub put_on : (text xs : List ℕ) {now : List ℕ} → now ≡ put text xs → now ≡ put now []
put_on text xs e = rw e (sym (put_nil text xs))

-- to write pieces joined is to write each
pub put-join : (text q : List ℕ) (qs : List (List ℕ)) → put text (join (q ∷ qs)) ≡ puts (put text q) qs
unfolding join
put-join text q [] = rw append-nil
put-join text q (r ∷ rs) = put-append text q (join (r ∷ rs)) ∙ put-join (put text q) r rs

pub join-length : (ps : List (List ℕ)) → length (join ps) ≡ total ps
unfolding join
join-length [] = refl
join-length (p ∷ ps) = rw (length-append, join-length ps)

-- ---- room

pub put_room : (text xs : List ℕ) → length text + length xs ≤ text_limit → put text xs ≡ text ++ xs
put_room = within_room text_limit

-- in a text that is cleared
pub put_front : (line : List ℕ) → length line ≤ text_limit → put [] line ≡ line
put_front line h = put_room [] line (omega arith)

-- and one behind the other
pub put_both : (xs ys : List ℕ) → length xs + length ys ≤ text_limit → put (put [] xs) ys ≡ xs ++ ys
put_both xs ys h = sym (put-append [] xs ys) ∙ put_front (xs ++ ys) (rw length-append h)

-- so a text that is cleared and then written is the line
pub put_said : (line : List ℕ) {text : List ℕ} → length line ≤ text_limit → text ≡ put [] line → text ≡ line
put_said line h e = e ∙ put_front line h

-- two texts that a promise of one line permits are equal
pub put_one : {line a b : List ℕ} → a ≡ line → b ≡ line → a ≡ b
put_one p q = p ∙ sym q

-- Laws of a buffer whose front is a text: pieces one after the other are their bytes joined, and the bytes past the text
-- keep their values. Assumes nothing.
use Prim.Native.Nat.{ℕ, ◌+◌, ◌-◌, ◌≤◌, ◌<◌, min}
use mathlib.Core.Path.{◌≡◌, sym, ap, ◌∙◌}
use mathlib.Core.List.{List, [], ◌∷◌, ◌++◌, append_assoc, append-nil}
use native.Mathlib.Omega.{arith}
use lib.ListN.{length, set, take, drop, length-append, length-take}
use borrow.Rule.Slice.PartMut.{put_mid}
use lib.Seq.{paste, take_all, take-append-add, take-append_seam, drop-append-add, drop-drop, length_paste_head}
use lib.Seq.{length-take-le}
use Rattle.std.proofs.lemmas.List.{take_more_set}
use Rattle.logic.proofs.Fronts.{take_min}
use Rattle.text.specs.Text.{text_limit, join}
use Rattle.text.specs.Text as list
use Rattle.text.specs.Pages.{Page, page, written, put_within, put, puts}
use Rattle.text.proofs.Writing.{cut_twice}

-- ---- within any limit

-- a text written over a shorter one leaves nothing of it
written_over : (text longer before : List ℕ) → length text ≤ length longer
    → written longer (written text before).bytes ≡ written longer before
written_over text longer before h =
    let past = length longer - length text in
    let all : length longer ≡ length text + past = omega arith in
    let same : drop (length longer) (text ++ drop (length text) before) ≡ drop (length longer) before =
    rw (all, drop-append-add text _ past, drop-drop) in
    ap (λ (rest : List ℕ). page (longer ++ rest) (length longer)) same

module _ (limit : ℕ) (p : Page) where
  pub within_append : (xs ys : List ℕ) → put_within limit p (xs ++ ys) ≡ put_within limit (put_within limit p xs) ys
  unfolding put_within
  within_append xs ys =
      let front = take p.size p.bytes in
      let one = take limit (front ++ xs) in
      let both = take limit (one ++ ys) in
      let longer : length one ≤ length both = simp (length-take, length-append) (omega arith) in
      let text : take limit (front ++ (xs ++ ys)) ≡ both =
      rw (← append_assoc front xs ys) (cut_twice limit (front ++ xs) ys) in
      let kept : take (length one) (one ++ drop (length one) p.bytes) ≡ one = take-append_seam one _ in
      ap (λ (t : List ℕ). written t p.bytes) text ∙ sym (written_over one both p.bytes longer)
      ∙ ap (λ (t : List ℕ). written (take limit (t ++ ys)) (one ++ drop (length one) p.bytes)) (sym kept)

  -- with room the text is the old one and the new bytes
  pub within_room : (xs : List ℕ) → length (take p.size p.bytes) + length xs ≤ limit
      → put_within limit p xs ≡ written (take p.size p.bytes ++ xs) p.bytes
  unfolding put_within
  within_room xs h =
      ap (λ (t : List ℕ). written t p.bytes)
      (take_all limit (take p.size p.bytes ++ xs) (rw length-append (omega arith)))

-- ---- pieces of a text

pub put-append : (p : Page) (xs ys : List ℕ) → put p (xs ++ ys) ≡ put (put p xs) ys
put-append = within_append text_limit

-- to write pieces joined is to write each
pub put-join : (p : Page) (q : List ℕ) (qs : List (List ℕ)) → put p (join (q ∷ qs)) ≡ puts (put p q) qs
unfolding join
put-join p q [] = rw append-nil
put-join p q (r ∷ rs) = put-append p q (join (r ∷ rs)) ∙ put-join (put p q) r rs

-- ---- room

pub put_room : (p : Page) (xs : List ℕ) → length (take p.size p.bytes) + length xs ≤ text_limit
    → put p xs ≡ written (take p.size p.bytes ++ xs) p.bytes
put_room = within_room text_limit

-- at the front of a buffer
pub put_front : (before line : List ℕ) → length line ≤ text_limit → put (page before 0) line ≡ written line before
put_front before line h = put_room (page before 0) line (omega arith)

-- ---- a lent buffer

-- the promise fixes the answer and every lent byte: two that meet it are equal
pub put_one : {p : Page} {a b : List ℕ} {m n : ℕ} → page a m ≡ p → page b n ≡ p → (m ≡ n) × (a ≡ b)
put_one x y =
    let same = x ∙ sym y in (ap (λ (p : Page). p.size) same, ap (λ (p : Page). p.bytes) same)

-- as many bytes as there is room for, pasted behind the text
pub pasted : (out s : List ℕ) (at from n : ℕ) → from ≡ min at (length out) → n ≡ min (length s) (length out - from)
    → page (paste out from s n) (from + n) ≡ put_within (length out) (page out at) s
unfolding put_within
pasted out s at from n e k =
    let room = length out - from in
    let least : n ≡ min room (length s) = omega arith in
    let long : length (take from out) + room ≡ length out = rw (length-take-le from out (omega arith)) (omega arith) in
    let head : take at out ≡ take from out = rw (e, take_min) in
    let text : take (length out) (take at out ++ s) ≡ take from out ++ take n s =
    rw (head, least, take_min) (rw long at (take-append-add (take from out) s room)) in
    let size = length_paste_head out from s n (omega arith) (omega arith) in
    ap (λ (k : ℕ). page (take from out ++ take n s ++ drop k out) k) (sym size)
    ∙ ap (λ (t : List ℕ). written t out) (sym text)

-- so the text is the old one, the bytes more behind it, cut at the limit
pub text_of_put : (limit : ℕ) (p : Page) (xs : List ℕ)
    → take (put_within limit p xs).size (put_within limit p xs).bytes ≡ list.put_within limit (take p.size p.bytes) xs
unfolding put_within list.put_within
text_of_put limit p xs = take-append_seam (take limit (take p.size p.bytes ++ xs)) _

-- a part of the buffer takes as many bytes as there is room for
pub filled : (out s : List ℕ) (at from n : ℕ) {limit : ℕ} {part : List ℕ} → length out ≡ limit → from ≡ min at limit
    → n ≡ min (length s) (limit - from) → part ≡ take n s
    → take (from + n) (put_mid from (from + n - from) out part) ≡ list.put_within limit (take at out) s
filled out s at from n {limit} {part} size e k is =
    let count : from + n - from ≡ n = omega arith in
    let mid : put_mid from (from + n - from) out part ≡ paste out from s n = rw (count, is, drop-drop, ← append_assoc) in
    rw (mid, ← size)
    (ap (λ (p : Page). take p.size p.bytes) (pasted out s at from n (rw size e) (rw size k))
    ∙ text_of_put (length out) (page out at) s)

-- the text that a buffer has is no longer than the buffer: to put nothing behind it leaves it
pub put_none : (out : List ℕ) (size : ℕ) {limit : ℕ} {text : List ℕ} → length out ≡ limit → take size out ≡ text
    → text ≡ list.put_within limit text []
unfolding list.put_within
put_none out size {limit} {text} e is =
    let short : length (take size out) ≤ limit = rw length-take (omega arith) in
    sym (rw append-nil (take_all limit text (rw is at short)))

-- a byte is stored behind the text, where there is room
pub stored : (out : List ℕ) (size b : ℕ) {limit : ℕ} {text : List ℕ} → length out ≡ limit → take size out ≡ text
    → size < limit → take (size + 1) (set out size b) ≡ list.put_within limit text (b ∷ [])
unfolding list.put_within
stored out size b {limit} {text} e is room =
    let inside : size < length out = omega arith in
    let short : length (take size out ++ (b ∷ [])) ≤ limit = rw (length-append, length-take) (omega arith) in
    rw (take_more_set out size b inside, ← is) (sym (take_all limit (take size out ++ (b ∷ [])) short))

pub full : (out : List ℕ) (size b : ℕ) {limit : ℕ} {text : List ℕ} → length out ≡ limit → take size out ≡ text
    → limit ≤ size → text ≡ list.put_within limit text (b ∷ [])
unfolding list.put_within
full out size b {limit} {text} e is past =
    let whole : take size out ≡ out = take_all size out (omega arith) in
    let same : out ≡ text = sym whole ∙ is in
    rw (← same, ← e) (sym (take-append_seam out (b ∷ [])))

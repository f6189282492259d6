-- Laws of a record's fields: a little-endian number from its last byte on, and how large it can be.
-- Assumes nothing.
use Prim.Native.Nat.{ℕ, suc, ◌+◌, ◌-◌, ◌*◌, ◌^◌, ◌≤◌, ◌<◌}
use mathlib.Core.Path.{◌≡◌, refl, sym, ap, ◌∙◌}
use Rattle.std.specs.Prelude.{Some, None}
use Rattle.std.specs.Option.{unwrap_or}
use mathlib.Core.List.{List, ◌++◌}
use native.Mathlib.Omega.{arith}
use borrow.Author.Tests.{lt-ltb, le-ltb}
use lib.ListN.{length, take, drop, length-append, length-drop, length-take, get_or-append}
use lib.Seq.{take_all, get_or-take}
use lib.Pow.{pow-add, pow_mono}
use Rattle.logic.proofs.Cases.{by_test, case_lt, if_true, if_false}
use Rattle.script.specs.Records.{u8, u16, le, header, longest, record_size, record_lacks, rest_start}

-- one byte more in front: of the n bytes from a place on, those from the i-th on are read
pub le_more : (p : List ℕ) (place i n : ℕ) → 0 < i → i ≤ n
    → u8 p (place + (i - 1)) + le p (place + i) (n - i) * 256 ≡ le p (place + (i - 1)) (n - (i - 1))
unfolding le
le_more p place i n h l =
    let e : n - (i - 1) ≡ suc (n - i) = omega arith in
    let f : place + (i - 1) + 1 ≡ place + i = omega arith in
    rw (e, f)

-- and its size, in bits
pub le_room : (k v b : ℕ) → v < 2 ^ (8 * k) → b < 256 → b + v * 256 < 2 ^ (8 * (k + 1))
le_room k v b h l =
    let e : 8 * (k + 1) ≡ 8 * k + 8 = omega arith in
    rw (e, pow-add 2 (8 * k) 8) (omega arith)

pub le_fits : (k n : ℕ) → k < n → n ≤ 8 → 2 ^ (8 * (k + 1)) ≤ 2 ^ 64
le_fits k n h l = let l8 : 8 * (k + 1) ≤ 64 = omega arith in pow_mono l8

-- all that stands from a place on
pub from_on : (s : List ℕ) (i : ℕ) → take (length s - i) (drop i s) ≡ drop i s
from_on s i = take_all (length s - i) (drop i s) (rw length-drop (omega arith))

-- a rest begins within its record
pub rest_within : (kind n : ℕ) → rest_start kind n ≤ n
unfolding rest_start
rest_within kind n =
    by_test (λ x. x ≤ n) (λ e. omega arith) (λ e. by_test (λ x. x ≤ n) (λ f. omega arith) (λ f. omega arith))

-- ---- where a record ends

pub none_is_no_size : (n : ℕ) → None ≡ Some n → ⊥
none_is_no_size n e = let z : ◌≡◌ {A = ℕ} 0 1 = cc in absurd (omega arith)

some_same : {m n : ℕ} → Some m ≡ Some n → m ≡ n
some_same e = ap (λ o. unwrap_or o 0) e

-- the first record is not whole while bytes of it are missing
pub size_part : (bytes : List ℕ) → length bytes < header + u16 bytes 0 → record_size bytes ≡ None
unfolding record_size
size_part bytes h = by_test (λ x. x ≡ None) (λ e. refl) (λ e. if_true _ _ (lt-ltb _ _ h))

pub size_whole : (bytes : List ℕ) → header + u16 bytes 0 ≤ length bytes
    → record_size bytes ≡ Some (header + u16 bytes 0)
unfolding record_size
size_whole bytes h = if_false _ _ (le-ltb (length bytes) header (omega arith)) ∙ if_false _ _ (le-ltb _ _ h)

-- the header is read from its own four bytes
head_same : (bytes : List ℕ) (k : ℕ) → header ≤ k → u16 (take k bytes) 0 ≡ u16 bytes 0
unfolding le
head_same bytes k h = rw (get_or-take k bytes 0 0 (omega arith), get_or-take k bytes 1 0 (omega arith))

-- before its last byte no record is whole
pub size_before : (bytes : List ℕ) (k : ℕ) → k < header + u16 bytes 0 → record_size (take k bytes) ≡ None
size_before bytes k h =
    let l : length (take k bytes) ≤ k = rw length-take (omega arith) in
    case_lt (length (take k bytes)) header
    (λ few. size_part (take k bytes) (omega arith))
    (λ enough. size_part (take k bytes) (rw (head_same bytes k (omega arith)) (omega arith)))

-- and at its last byte it is
pub size_at : (bytes : List ℕ) → header + u16 bytes 0 ≤ length bytes
    → record_size (take (header + u16 bytes 0) bytes) ≡ Some (header + u16 bytes 0)
size_at bytes h =
    let n = header + u16 bytes 0 in
    let e = head_same bytes n (omega arith) in
    size_whole (take n bytes) (rw (e, length-take) (omega arith)) ∙ rw e

-- a size is that of the header and of the payload, which are there
pub size_is : (bytes : List ℕ) (n : ℕ) → record_size bytes ≡ Some n → (n ≡ header + u16 bytes 0) × (n ≤ length bytes)
size_is bytes n e =
    case_lt (length bytes) (header + u16 bytes 0)
    (λ l. absurd (none_is_no_size n (sym (size_part bytes l) ∙ e)))
    (λ l. let same = some_same (sym e ∙ size_whole bytes l) in (same, omega (arith, same)))

-- in other words
pub whole_before : (bytes : List ℕ) (n k : ℕ) → record_size bytes ≡ Some n → k < n
    → (record_size (take k bytes) ≡ None) × (record_size (take n bytes) ≡ Some n) × (n ≤ length bytes)
whole_before bytes n k e h =
    let is = size_is bytes n e in (
      size_before bytes k (omega (arith, is.0, h)),
      rw is.0 (size_at bytes (omega (arith, is.0, is.1))),
      is.1,
    )

-- ---- what a record waits for

module _ (bytes : List ℕ) where
  lacks_header : length bytes < header → record_lacks bytes ≡ header - length bytes
  unfolding record_lacks
  lacks_header l = if_true _ _ (lt-ltb _ _ l)

  lacks_payload : header ≤ length bytes → record_lacks bytes ≡ header + u16 bytes 0 - length bytes
  unfolding record_lacks
  lacks_payload l = if_false _ _ (le-ltb _ _ l)

  -- where the record is not whole, for a byte at least
  pub lacks_some : record_size bytes ≡ None → 0 < record_lacks bytes
  lacks_some e =
      case_lt (length bytes) header (λ few. omega (arith, lacks_header few)) (λ enough.
      case_lt (length bytes) (header + u16 bytes 0) (λ part. omega (arith, lacks_payload enough))
      (λ whole. absurd (none_is_no_size _ (sym e ∙ size_whole bytes whole))))

  -- the header stays as it is
  head_kept : (more : List ℕ) → header ≤ length bytes → u16 (bytes ++ more) 0 ≡ u16 bytes 0
  unfolding le
  head_kept more l =
      rw (get_or-append bytes more 0 0 (omega arith), get_or-append bytes more 0 1 (omega arith))

  -- with fewer than it waits for it is not whole
  pub lacks_part : (more : List ℕ) → length more < record_lacks bytes → record_size (bytes ++ more) ≡ None
  lacks_part more h =
      case_lt (length bytes) header
      (λ few. size_part (bytes ++ more) (rw length-append (omega (arith, lacks_header few, h))))
      (λ enough.
      size_part (bytes ++ more) (rw (length-append, head_kept more enough) (omega (arith, lacks_payload enough, h))))

  -- and one that is not whole after that is shorter than the longest
  pub lacks_short : (more : List ℕ) → length more ≤ record_lacks bytes → length bytes + record_lacks bytes ≤ longest
      → record_size (bytes ++ more) ≡ None → length bytes + length more < longest
  lacks_short more h room e =
      case_lt (length bytes) header (λ few. omega (arith, lacks_header few)) (λ enough.
      case_lt (length more) (record_lacks bytes) (λ less. omega arith) (λ all.
      let whole = size_whole (bytes ++ more)
      (rw (length-append, head_kept more enough) (omega (arith, lacks_payload enough, all))) in
      absurd (none_is_no_size _ (sym e ∙ whole))))

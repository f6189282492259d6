-- What later layers use of a step's rows: each is a frame and then zeros, the width's front of it is the frame, windows
-- with equal frames give equal rows, and the bytes that a step hashes are the frames by rising seat. Assumes nothing.
use Prim.Native.Nat.{ℕ, zero, suc, ◌+◌, ◌^◌, ◌<◌, ◌≤◌}
use mathlib.Core.Path.{◌≡◌, refl, sym, ap, ◌∙◌}
use mathlib.Core.List.{List, [], ◌∷◌, ◌++◌, append_assoc, append-nil}
use native.Mathlib.Omega.{arith}
use lib.ListN.{length, get_or, take, length-take, get_or-eq_default}
use lib.Seq.{get_or-take, get_or-drop, ext_get_or}
use borrow.Author.Tests.{lt-ltb, le-ltb}
use lib.Dec.{ltb}
use Rattle.logic.specs.Test.{when◌then◌else◌}
use Rattle.logic.proofs.Cases.{by_test, case_lt, if_true, if_false}
use Rattle.logic.proofs.Tabulated.{length-tabulate, get_or-tabulate}
use Rattle.hash.specs.Fnv.{fnv, le_bytes}
use Rattle.hash.proofs.Laws.{fnv_lt}
use Rattle.peer.specs.Seats.{seats}
use Rattle.params.specs.Params.{max_width}
use Rattle.window.specs.Window.{frame_of, frame_start}
use Rattle.window.specs.declared.Window.{Window}
use Rattle.window.proofs.Laws.{Sized, frame_length}
use Rattle.rows.specs.Rows.{padded, rows_of, frames_of, heads, step_digest}

-- ---- one row

pub length-padded : (bytes : List ℕ) → length (padded bytes) ≡ max_width
unfolding padded
length-padded bytes = length-tabulate max_width _

pub padded_byte : (bytes : List ℕ) (i : ℕ) → i < max_width → get_or (padded bytes) i 0 ≡ get_or bytes i 0
unfolding padded
padded_byte bytes i l = get_or-tabulate max_width _ 0 i l

-- past the bytes, and past the row
pub padded_past : (bytes : List ℕ) (i : ℕ) → length bytes ≤ i → get_or (padded bytes) i 0 ≡ 0
padded_past bytes i h =
    case_lt i max_width
    (λ l. padded_byte bytes i l ∙ get_or-eq_default bytes 0 h)
    (λ l. get_or-eq_default (padded bytes) 0 (rw length-padded l))

-- the front of a row is what was put there
pub take-padded : (bytes : List ℕ) (width : ℕ) → length bytes ≡ width → width ≤ max_width
    → take width (padded bytes) ≡ bytes
take-padded bytes width e h =
    let long : length (take width (padded bytes)) ≡ width = rw (length-take, length-padded) (omega arith) in
    ext_get_or 0 (take width (padded bytes)) bytes (long ∙ sym e)
    (λ i l. get_or-take width (padded bytes) i 0 (omega arith) ∙ padded_byte bytes i (omega arith))

-- ---- the rows of a tick

module _ (w : Window) (tick count width : ℕ) where
  pub length_rows : length (rows_of w tick count width) ≡ seats
  unfolding rows_of
  length_rows = length-tabulate seats _

  pub row_is : (k : ℕ) → k < seats
      → get_or (rows_of w tick count width) k [] ≡ padded (when ltb k count then frame_of w k tick width else [])
  unfolding rows_of
  row_is k l = get_or-tabulate seats _ [] k l

  pub row_frame : (k : ℕ) → k < seats → k < count
      → get_or (rows_of w tick count width) k [] ≡ padded (frame_of w k tick width)
  row_frame k l h = row_is k l ∙ ap padded (if_true _ _ (lt-ltb k count h))

  pub row_none : (k : ℕ) → k < seats → count ≤ k → get_or (rows_of w tick count width) k [] ≡ padded []
  row_none k l h = row_is k l ∙ ap padded (if_false _ _ (le-ltb k count h))

  row_past : (k i : ℕ) → seats ≤ k → get_or (get_or (rows_of w tick count width) k []) i 0 ≡ 0
  row_past k i l =
      let h : length (rows_of w tick count width) ≤ k = rw length_rows l in
      rw (get_or-eq_default (rows_of w tick count width) [] h)

  -- zero beyond the width and beyond the roster, wherever that is
  pub past_width : (k i : ℕ) → width ≤ i → get_or (get_or (rows_of w tick count width) k []) i 0 ≡ 0
  unfolding frame_of
  past_width k i h =
      case_lt k seats
      (λ l. rw (row_is k l)
      (padded_past _ i
      (by_test (λ (xs : List ℕ). length xs ≤ i) (λ _. rw length-take (omega arith)) (λ _. omega arith))))
      (λ l. row_past k i l)

  pub past_roster : (k i : ℕ) → count ≤ k → get_or (get_or (rows_of w tick count width) k []) i 0 ≡ 0
  past_roster k i h =
      case_lt k seats
      (λ l. rw (row_none k l h) (padded_past [] i (omega arith)))
      (λ l. row_past k i l)

  -- a byte of a frame is the ring's
  pub row_byte : (k i : ℕ) → k < seats → k < count → i < width → i < max_width
      → get_or (get_or (rows_of w tick count width) k []) i 0 ≡ get_or w.ring (frame_start k tick + i) 0
  unfolding frame_of
  row_byte k i l h a b = rw (row_frame k l h, padded_byte _ i b, get_or-take {A = ℕ} width _ i 0 a, get_or-drop)

  -- the front of a row is the frame
  pub row_head : Sized w → (k : ℕ) → k < count → count ≤ seats → width ≤ max_width
      → take width (get_or (rows_of w tick count width) k []) ≡ frame_of w k tick width
  row_head ok k h most short =
      let l : k < seats = omega arith in
      rw (row_frame k l h) (take-padded (frame_of w k tick width) width (frame_length w k tick width ok l short) short)

-- windows that hold the same frames give the same rows, and windows that give the same rows hold the same frames
module _ (w v : Window) (tick count width : ℕ) where
  pub rows_same : ((k : ℕ) → k < count → k < seats → frame_of w k tick width ≡ frame_of v k tick width)
      → rows_of w tick count width ≡ rows_of v tick count width
  rows_same same =
      ext_get_or [] (rows_of w tick count width) (rows_of v tick count width)
      (length_rows w tick count width ∙ sym (length_rows v tick count width))
      (λ k i.
      let l : k < seats = rw length_rows at i in
      case_lt k count
      (λ h. rw (row_frame w tick count width k l h, row_frame v tick count width k l h, same k h l))
      (λ h. rw (row_none w tick count width k l h, row_none v tick count width k l h)))

  pub frames_same : Sized w → Sized v → count ≤ seats → width ≤ max_width
      → rows_of w tick count width ≡ rows_of v tick count width
      → (k : ℕ) → k < count → frame_of w k tick width ≡ frame_of v k tick width
  frames_same ok ko most short e k h =
      sym (row_head w tick count width ok k h most short) ∙ ap (λ (rows : List (List ℕ)). take width (get_or rows k [])) e
      ∙ row_head v tick count width ko k h most short

-- ---- what a step hashes

pub heads_more : (rows : List (List ℕ)) (width k : ℕ) → k < length rows
    → heads (suc k) width rows ≡ heads k width rows ++ take width (get_or rows k [])
unfolding heads
heads_more [] width k l = absurd (omega arith)
heads_more (row ∷ rows) width zero l = append-nil (take width row)
heads_more (row ∷ rows) width (suc k) l = rw (heads_more rows width k (omega arith), append_assoc)

-- the heads of the rows are the frames
pub heads_rows : (w : Window) (tick count width : ℕ) → Sized w → count ≤ seats → width ≤ max_width
    → heads count width (rows_of w tick count width) ≡ frames_of w tick width count
unfolding heads frames_of
heads_rows w tick count width ok most short = upto count (omega arith)
  where
    upto : (k : ℕ) → k ≤ count → heads k width (rows_of w tick count width) ≡ frames_of w tick width k
    upto zero h = refl
    upto (suc k) h =
        let inside : k < length (rows_of w tick count width) = rw length_rows (omega arith) in
        rw (
          heads_more (rows_of w tick count width) width k inside,
          upto k (omega arith),
          row_head w tick count width ok k h most short,
        )

-- so a step hashes its tick, then the frames by rising seat
pub step_frames : (w : Window) (digest tick count width : ℕ) → Sized w → count ≤ seats → width ≤ max_width
    → step_digest digest tick count width (rows_of w tick count width)
    ≡ fnv digest (le_bytes 8 tick ++ frames_of w tick width count)
unfolding step_digest
step_frames w digest tick count width ok most short = rw (heads_rows w tick count width ok most short)

pub step_digest_lt : (digest tick count width : ℕ) (rows : List (List ℕ)) → digest < 2 ^ 64
    → step_digest digest tick count width rows < 2 ^ 64
unfolding step_digest
step_digest_lt digest tick count width rows l = fnv_lt digest (le_bytes 8 tick ++ heads count width rows) l

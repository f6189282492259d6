-- What the code's steps give: a frame in a row of zeros, a row more in the rows of a tick, and the heads of the rows
-- that a step hashes. Assumes nothing.
use Prim.Native.Nat.{ℕ, zero, suc, ◌+◌, ◌-◌, ◌<◌, ◌≤◌, min}
use mathlib.Core.Path.{◌≡◌, refl, sym, ◌∙◌}
use mathlib.Core.List.{List, [], ◌∷◌, ◌++◌}
use native.Mathlib.Omega.{arith}
use lib.ListN.{length, set, take, drop, replicate, length-set, length-take, length-drop, length-replicate, length-append}
use lib.ListN.{get_or-append, get_or-replicate}
use lib.Seq.{get_or-take, get_or-set_same, get_or-set_other, ext_get_or}
use Rattle.std.proofs.lemmas.List.{get_or-append_right, drop-replicate}
use Rattle.logic.proofs.Cases.{case_eq, case_lt}
use Rattle.peer.specs.Seats.{seats}
use Rattle.params.specs.Params.{max_width}
use Rattle.window.specs.Window.{frame_of}
use Rattle.window.specs.declared.Window.{Window}
use Rattle.rows.specs.Rows.{padded, rows_of, heads}
use Rattle.rows.proofs.Laws.{length-padded, padded_byte, padded_past, length_rows, row_frame, row_none}

-- the front of a list, as far as a row goes, over zeros
pub padded_front : (xs front : List ℕ) (width n : ℕ) → max_width ≤ length xs → n ≡ min width max_width
    → front ≡ take n xs → front ++ drop n (replicate {A = ℕ} max_width 0) ≡ padded (take width xs)
padded_front xs front width n long e f =
    let zeros = replicate {A = ℕ} max_width 0 in
    let front_long : length front ≡ n = rw (f, length-take) (omega arith) in
    let all : length (front ++ drop n zeros) ≡ max_width =
    rw (length-append, front_long, length-drop, length-replicate) (omega arith) in
    ext_get_or 0 (front ++ drop n zeros) (padded (take width xs)) (all ∙ sym (length-padded (take width xs)))
    (λ i l.
    let inside : i < max_width = rw all at l in
    case_lt i n
    (λ h.
    get_or-append front (drop n zeros) 0 i (rw front_long h)
    ∙ rw (f, get_or-take n xs i 0 h, padded_byte (take width xs) i inside, get_or-take width xs i 0 (omega arith)))
    (λ h.
    get_or-append_right front (drop n zeros) n i 0 front_long h
    ∙ rw (drop-replicate {X = ℕ} n max_width 0, get_or-replicate {A = ℕ} (max_width - n) (i - n) 0 0 (omega arith))
    (sym (padded_past (take width xs) i (rw length-take (omega arith))))))

module _ (w : Window) (tick width : ℕ) where
  -- the rows of k seats, with the next seat's frame in its row
  pub rows_more : (k : ℕ) → k < seats
      → set (rows_of w tick k width) k (padded (frame_of w k tick width)) ≡ rows_of w tick (k + 1) width
  rows_more k l =
      let xs = rows_of w tick k width in
      let row = padded (frame_of w k tick width) in
      let long : length (set xs k row) ≡ seats = length-set xs k row ∙ length_rows w tick k width in
      ext_get_or [] (set xs k row) (rows_of w tick (k + 1) width) (long ∙ sym (length_rows w tick (k + 1) width))
      (λ j h.
      let inside : j < seats = rw long at h in
      case_eq j k
      (λ e.
      rw e
      (get_or-set_same xs k row [] (rw length_rows l) ∙ sym (row_frame w tick (k + 1) width k l (omega arith))))
      (λ e.
      get_or-set_other xs k j row [] e
      ∙ case_lt j k
      (λ b. rw (row_frame w tick k width j inside b, row_frame w tick (k + 1) width j inside (omega arith)))
      (λ b. rw (row_none w tick k width j inside b, row_none w tick (k + 1) width j inside (omega arith)))))

  -- no seat above the last has a row
  pub rows_upto : (count n : ℕ) → n ≡ min count seats → rows_of w tick n width ≡ rows_of w tick count width
  rows_upto count n e =
      ext_get_or [] (rows_of w tick n width) (rows_of w tick count width)
      (length_rows w tick n width ∙ sym (length_rows w tick count width))
      (λ j h.
      let l : j < seats = rw length_rows at h in
      case_lt j count
      (λ b. rw (row_frame w tick n width j l (omega arith), row_frame w tick count width j l b))
      (λ b. rw (row_none w tick n width j l (omega arith), row_none w tick count width j l b)))

heads_nil : (count width : ℕ) → heads count width [] ≡ []
unfolding heads
heads_nil zero width = refl
heads_nil (suc count) width = refl

-- the heads of the first rows are the first heads, and past the last row there is none
heads_front : (n width : ℕ) (rows : List (List ℕ))
    → heads (length (take n rows)) width (take n rows) ≡ heads n width rows
unfolding heads
heads_front zero width rows = refl
heads_front (suc n) width [] = refl
heads_front (suc n) width (row ∷ rows) = rw (heads_front n width rows)

heads_past : (n width : ℕ) (rows : List (List ℕ)) → length rows ≤ n
    → heads (length rows) width rows ≡ heads n width rows
unfolding heads
heads_past n width [] h = sym (heads_nil n width)
heads_past zero width (row ∷ rows) h = absurd (omega arith)
heads_past (suc n) width (row ∷ rows) h = rw (heads_past n width rows (omega arith))

pub heads_upto : (count n width : ℕ) (rows : List (List ℕ)) → n ≡ min count (length rows)
    → heads (length (take n rows)) width (take n rows) ≡ heads count width rows
heads_upto count n width rows e =
    case_lt count (length rows)
    (λ l. let all : n ≡ count = omega arith in heads_front n width rows ∙ rw all)
    (λ l. let all : n ≡ length rows = omega arith in heads_front n width rows ∙ rw all (heads_past count width rows l))

-- What a turn of each loop does.
-- Assumes nothing.
use Prim.Native.Nat.{ℕ, zero, suc, ◌+◌, ◌≤◌}
use mathlib.Core.Path.{◌≡◌, refl, ap}
use mathlib.Core.Logic.{◌≢◌}
use mathlib.Core.List.{List, []}
use mathlib.Core.Bool.{Bool, true, false, not, ◌&&◌}
use native.Mathlib.Numerals.{add-one}
use native.Mathlib.Omega.{arith}
use Rattle.logic.proofs.Cases.{if_true, if_false}
use Rattle.peer.specs.Seats.{has, bit, set_of, every, tally, is_empty, seat_count}
use Rattle.peer.proofs.Laws.{has-bit, has_above}
use Rattle.text.specs.Ascii.{ascii}
use Rattle.text.specs.Decimal.{decimal}
use Rattle.text.specs.Text.{put}
use Rattle.text.proofs.Writing.{put-join}
use Rattle.desync.specs.Json.{comma, seat_list}

-- no seat of a set that is said seat by seat
pub empty_set : (w : ℕ) (p : ℕ → Bool) → is_empty w (set_of w p) ≡ every w (λ k. not (p k))
unfolding is_empty every set_of
empty_set zero p = refl
empty_set (suc w) p = simp (has-bit, has_above) (ap (λ (b : Bool). not (p 0) && b) (empty_set w (λ k. p (suc k))))

-- ---- a list of seats: the turn at seat k

tally_more : (w : ℕ) (p : ℕ → Bool) → tally (suc w) p ≡ tally w p + bit (p w)
unfolding tally
tally_more zero p = omega arith
tally_more (suc w) p = omega (arith, tally_more w (λ k. p (suc k)))

count_more : (set k : ℕ) → seat_count (k + 1) set ≡ seat_count k set + bit (has set k)
unfolding seat_count
count_more set k = rw add-one (tally_more k (has set))

-- the seats below k are listed behind what the text says, and counted
pub record Listed (text : List ℕ) (set k : ℕ) (out : List ℕ) (position : ℕ) : Type 0 where
  pub few : position ≤ k
  pub counted : position ≡ seat_count k set
  pub written : out ≡ put text (seat_list set k)

pub listed_none : (text : List ℕ) (set : ℕ) {out : List ℕ} → out ≡ put text [] → Listed text set 0 out 0
unfolding seat_list seat_count tally
listed_none text set s = record { few = omega arith; counted = refl; written = s }

module _ {text out : List ℕ} {set k position : ℕ} (i : Listed text set k out position) where
  pub listed_in : {after : List ℕ} → has set k ≡ true → after ≡ put (put out (comma position)) (decimal k)
      → Listed text set (k + 1) after (position + 1)
  unfolding seat_list
  listed_in h s = record {
    few = omega arith;
    counted = rw (count_more, h, i.counted);
    written = rw (add-one, if_true _ _ h, put-join, ← i.written, ← i.counted) s;
  }

  pub listed_out : has set k ≡ false → Listed text set (k + 1) out position
  unfolding seat_list
  listed_out h = record {
    few = omega arith;
    counted = rw (count_more, h) (omega arith);
    written = rw (add-one, if_false _ _ h) i.written;
  }

-- ---- a comma

pub comma_some : (position : ℕ) → position ≢ 0 → comma position ≡ ascii ","
unfolding comma
comma_some zero h = absurd (h refl)
comma_some (suc position) h = refl

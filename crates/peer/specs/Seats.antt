-- Document 01, "peer.rs": a set of seats is one byte, seat k at bit k. `of_count` of 0 is 0, of 3 is 7, of 8 or more is
-- 255. A seat above 7 is in no set; adding or removing it changes nothing. Each definition is over the number w of
-- seats, so it serves a byte and any wider number. Assumes nothing.
use Rattle.std.specs.Prelude.{Bool, true, false, not, ◌&&◌, ◌||◌, ℕ, zero, suc, ◌+◌, ◌*◌, ◌/◌, ◌%◌, ◌^◌, eqb, ltb}

-- how many seats there are at most
abbrev pub seats : ℕ
seats = 8

-- seat k is in the set s: bit k of s is 1
unfoldable pub has : ℕ → ℕ → Bool
has s k = eqb (s / 2 ^ k % 2) 1

-- a truth value as a bit
abbrev pub bit : Bool → ℕ
bit true = 1
bit false = 0

-- the set of those seats j below w for which `p j` holds, as a number: bit 0 is seat 0, and the bits above it are the
-- seats above
unfoldable pub set_of : ℕ → (ℕ → Bool) → ℕ
set_of zero p = 0
set_of (suc w) p = set_of w (λ j. p (suc j)) * 2 + bit (p zero)

-- `p j` holds of every seat j below w
unfoldable pub every : ℕ → (ℕ → Bool) → Bool
every zero p = true
every (suc w) p = p zero && every w (λ j. p (suc j))

-- how many seats j below w have `p j`
unfoldable pub tally : ℕ → (ℕ → Bool) → ℕ
tally zero p = 0
tally (suc w) p = bit (p zero) + tally w (λ j. p (suc j))

-- ---- what each operation on sets of w seats gives

-- the first n seats: all of them from w on
unfoldable pub first_seats : (w n : ℕ) → ℕ
first_seats w n = set_of w (λ j. ltb j n)

-- s and the seat k: what was in, and k. A k that is no seat, as it is not below w, changes nothing
unfoldable pub adding : (w s k : ℕ) → ℕ
adding w s k = set_of w (λ j. has s j || eqb j k)

-- s without the seat k: what was in, but k
unfoldable pub removing : (w s k : ℕ) → ℕ
removing w s k = set_of w (λ j. has s j && not (eqb j k))

-- s without the seats of o
unfoldable pub less : (w s o : ℕ) → ℕ
less w s o = set_of w (λ j. has s j && not (has o j))

-- no seat is in s
unfoldable pub is_empty : (w s : ℕ) → Bool
is_empty w s = every w (λ j. not (has s j))

-- each seat of s is in o
unfoldable pub is_subset : (w s o : ℕ) → Bool
is_subset w s o = every w (λ j. not (has s j) || has o j)

-- how many seats are in s
unfoldable pub seat_count : (w s : ℕ) → ℕ
seat_count w s = tally w (has s)

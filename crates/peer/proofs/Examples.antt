-- Worked examples of document 01, computed from the definitions. Assumes nothing.
use mathlib.Core.Path.{◌≡◌, refl}
use mathlib.Core.Bool.{true, false}
use Rattle.peer.specs.Seats.{seats, has, set_of, every, tally, first_seats}
use Rattle.peer.specs.Seats.{adding, removing, less, is_subset, seat_count}

-- `of_count` of 0 is 0, of 3 is 7, of 8 or more is 255
of_counts : (first_seats seats 0 ≡ 0) × (first_seats seats 3 ≡ 7) × (first_seats seats 8 ≡ 255)
    × (first_seats seats 255 ≡ 255)
unfolding first_seats set_of
of_counts = (refl, refl, refl, refl)

-- a seat above 7 is in no set, and adding or removing it changes nothing
above : (has 255 8 ≡ false) × (adding seats 5 8 ≡ 5) × (removing seats 5 8 ≡ 5)
unfolding has adding removing set_of
above = (refl, refl, refl)

some : (adding seats 5 1 ≡ 7) × (removing seats 7 1 ≡ 5) × (less seats 7 5 ≡ 2) × (is_subset seats 5 7 ≡ true)
    × (is_subset seats 7 5 ≡ false) × (seat_count seats 7 ≡ 3)
unfolding has adding removing less is_subset seat_count set_of every tally
some = (refl, refl, refl, refl, refl, refl)

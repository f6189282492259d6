-- Both sides of each rule, computed from the definitions: one table under a single proof for each call.
-- Assumes nothing.
use Rattle.std.specs.Prelude.{None, Some}
use mathlib.Core.Path.{◌≡◌, refl}
use mathlib.Core.Bool.{true, false}
use mathlib.Core.List.{[], ◌∷◌}
use Prim.Native.Nat.{ℕ, ◌-◌, ◌^◌}
use Rattle.logic.specs.Test.{when◌then◌else◌}
use Rattle.peer.specs.Seats.{seats, has, every}
use Rattle.fingerprint.specs.declared.Fingerprint.{Fingerprint}
use Rattle.fingerprint.specs.declared.Fingerprints.{Fingerprints}
use Rattle.fingerprint.specs.declared.Arrival.TheVariants.{New, Repeated, Contradicted}
use Rattle.fingerprint.specs.Cells.{own_cell, remote_cell, no_prints, cell_at, stored_at, own}
use Rattle.fingerprint.specs.Cells.{remote, with_own, with_remote, of_tick, own_for, remote_for}
use Rattle.fingerprint.specs.Judging.{agrees, all_agree, parted_by, parted, arrival_by, arrival}
use Rattle.fingerprint.specs.LastAgreed.{offer, higher, agreed_in, last_agreed}

print : (tick state input : ℕ) → Fingerprint
print tick state input = record { tick = tick; state = state; input = input }

-- one's own print of a tick, and one of a seat
ours : Fingerprints → (tick state input : ℕ) → Fingerprints
ours p tick state input = with_own p (print tick state input)

theirs : Fingerprints → (seat tick state input : ℕ) → Fingerprints
theirs p seat tick state input = with_remote p seat (print tick state input)

-- what finding a print computes with, as one name to unfold
finding : Unit {0}
unfolding print ours theirs no_prints own remote own_for remote_for of_tick with_own with_remote own_cell remote_cell cell_at
    stored_at when◌then◌else◌
finding = tt

-- a cell as it stands, and for a tick: another tick of the same cell, another cell, another seat, the last seat and one
-- above it; the newer tick first
found :
    own no_prints 5 ∷ own (ours no_prints 5 1 2) 5 ∷ own (ours no_prints 5 1 2) 21 ∷ own (ours no_prints 5 1 2) 6
    ∷ own_for (ours no_prints 5 1 2) 5 ∷ own_for (ours no_prints 5 1 2) 21 ∷ remote (ours no_prints 5 1 2) 0 5
    ∷ remote (theirs no_prints 1 5 1 2) 1 5 ∷ remote (theirs no_prints 1 5 1 2) 1 21
    ∷ remote (theirs no_prints 1 5 1 2) 2 5 ∷ own (theirs no_prints 1 5 1 2) 5
    ∷ remote_for (theirs no_prints 1 5 1 2) 1 5 ∷ remote_for (theirs no_prints 1 5 1 2) 1 21
    ∷ remote (theirs no_prints (seats - 1) 15 1 2) (seats - 1) 15 ∷ remote (theirs no_prints seats 5 1 2) seats 5
    ∷ remote (theirs (theirs no_prints 1 21 3 4) 1 5 1 2) 1 21
    ∷ remote_for (theirs (theirs no_prints 1 21 3 4) 1 5 1 2) 1 21
    ∷ []
    ≡ None ∷ Some (print 5 1 2) ∷ Some (print 5 1 2) ∷ None
    ∷ Some (print 5 1 2) ∷ None ∷ None
    ∷ Some (print 5 1 2) ∷ Some (print 5 1 2) ∷ None ∷ None
    ∷ Some (print 5 1 2) ∷ None
    ∷ Some (print 15 1 2) ∷ None
    ∷ Some (print 5 1 2) ∷ None
    ∷ []
unfolding finding
found = refl

-- a seat above the last changes nothing
no_seat : theirs no_prints seats 5 1 2 ≡ no_prints
unfolding finding
no_seat = refl

-- silence on either side; the same and another state; another input alone; another tick in the remote's cell, and in
-- one's own; a seat that is no remote; the second remote; the last seat
judged :
    parted no_prints 2 5 ∷ parted (ours no_prints 5 1 2) 2 5 ∷ parted (theirs no_prints 1 5 1 2) 2 5
    ∷ parted (theirs (ours no_prints 5 1 2) 1 5 1 2) 2 5 ∷ parted (theirs (ours no_prints 5 1 2) 1 5 9 2) 2 5
    ∷ parted (theirs (ours no_prints 5 1 2) 1 5 1 9) 2 5
    ∷ parted (theirs (ours no_prints 5 1 2) 1 21 9 2) 2 5 ∷ parted (theirs (ours no_prints 21 1 2) 1 5 9 2) 2 5
    ∷ parted (theirs (ours no_prints 5 1 2) 1 5 9 2) 4 5
    ∷ parted (theirs (theirs (ours no_prints 5 1 2) 1 5 1 2) 2 5 9 2) 6 5
    ∷ parted (theirs (ours no_prints 5 1 2) (seats - 1) 5 9 2) (2 ^ (seats - 1)) 5
    ∷ []
    ≡ false ∷ false ∷ false
    ∷ false ∷ true ∷ false
    ∷ false ∷ false
    ∷ false
    ∷ true
    ∷ true
    ∷ []
unfolding finding agrees all_agree parted_by parted has every
judged = refl

-- an empty cell; an older and a newer tick in it; this tick with the same values, another state, another input; another
-- seat's cell; no seat
arrivals :
    arrival no_prints 1 (print 21 1 2)
    ∷ arrival (theirs no_prints 1 5 1 2) 1 (print 21 1 2) ∷ arrival (theirs no_prints 1 37 1 2) 1 (print 21 1 2)
    ∷ arrival (theirs no_prints 1 21 1 2) 1 (print 21 1 2) ∷ arrival (theirs no_prints 1 21 1 2) 1 (print 21 9 2)
    ∷ arrival (theirs no_prints 1 21 1 2) 1 (print 21 1 9)
    ∷ arrival (theirs no_prints 1 21 1 2) 2 (print 21 9 2) ∷ arrival (theirs no_prints seats 21 1 2) seats (print 21 1 2)
    ∷ []
    ≡ New
    ∷ New ∷ New
    ∷ Repeated ∷ Contradicted ∷ Contradicted
    ∷ New ∷ New
    ∷ []
unfolding finding arrival_by arrival
arrivals = refl

-- one's own ticks 0 and 3
two : Fingerprints
two = ours (ours no_prints 0 1 2) 3 4 5

-- no print; silence, at the tick itself and above it; the higher of two; the higher denied, and both; by its input
-- alone; by another tick of the cell; a tick that stands in a cell of another, with the remote asked where that tick
-- belongs
last :
    last_agreed no_prints 2 5
    ∷ last_agreed two 2 0 ∷ last_agreed two 2 1 ∷ last_agreed two 2 3 ∷ last_agreed two 2 4
    ∷ last_agreed (theirs two 1 3 4 5) 2 9 ∷ last_agreed (theirs two 1 3 9 5) 2 9
    ∷ last_agreed (theirs (theirs two 1 3 9 5) 1 0 9 2) 2 9
    ∷ last_agreed (theirs two 1 3 4 9) 2 9 ∷ last_agreed (theirs two 1 19 9 5) 2 9 ∷ last_agreed (theirs two 1 3 9 5) 4 9
    ∷ last_agreed (stored_at two 2 (print 35 1 2)) 2 99
    ∷ last_agreed (theirs (stored_at two 2 (print 35 1 2)) 1 35 9 2) 2 99
    ∷ []
    ≡ None
    ∷ None ∷ Some 0 ∷ Some 0 ∷ Some 3
    ∷ Some 3 ∷ Some 0 ∷ None
    ∷ Some 3 ∷ Some 3 ∷ Some 3
    ∷ Some 35 ∷ Some 3
    ∷ []
unfolding finding two agrees all_agree has every offer higher agreed_in last_agreed
last = refl

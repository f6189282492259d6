-- Document 01: "Judging compares state values only, own against each remote for that very tick". Of a Digest, 30: "the
-- cell holds this tick with other values"; "An equal repeat is accepted unjudged; any other Digest that isn't refused
-- goes in its sender's cell". Assumes nothing.
use Rattle.std.specs.Prelude.{ℕ, Bool, true, false, Option, None, Some, not, ◌&&◌, ◌||◌, eqb}
use Rattle.logic.specs.Test.{when◌then◌else◌}
use Rattle.peer.specs.Seats.{seats, has, every}
use Rattle.fingerprint.specs.declared.Fingerprint.{Fingerprint}
use Rattle.fingerprint.specs.declared.Fingerprints.{Fingerprints}
use Rattle.fingerprint.specs.declared.Arrival.{Arrival}
use Rattle.fingerprint.specs.declared.Arrival.TheVariants.{New, Repeated, Contradicted}
use Rattle.fingerprint.specs.Cells.{remote, own_for, remote_for}

-- ---- judging

-- no other state is held
unfoldable pub agrees : ℕ → Option Fingerprint → Bool
agrees state None = true
agrees state (Some f) = eqb f.state state

-- each remote's state for that very tick is this one, where it is held
unfoldable pub all_agree : Fingerprints → (remotes tick state : ℕ) → Bool
all_agree p remotes tick state = every seats (λ k. not (has remotes k) || agrees state (remote_for p k tick))

unfoldable pub parted_by : Fingerprints → (remotes tick : ℕ) → Option Fingerprint → Bool
parted_by p remotes tick None = false
parted_by p remotes tick (Some mine) = not (all_agree p remotes tick mine.state)

-- one's own state for that tick is held, and a remote's differs
unfoldable pub parted : Fingerprints → (remotes tick : ℕ) → Bool
parted p remotes tick = parted_by p remotes tick (own_for p tick)

-- ---- a Digest arrives

-- of another tick, or none: new; of this tick, with these values: repeated; of this tick, with others: contradicted
unfoldable pub arrival_by : Fingerprint → Option Fingerprint → Arrival
arrival_by print None = New
arrival_by print (Some f) =
    when not (eqb f.tick print.tick) then New
    else when eqb f.state print.state && eqb f.input print.input then Repeated
    else Contradicted

unfoldable pub arrival : Fingerprints → ℕ → Fingerprint → Arrival
arrival p seat print = arrival_by print (remote p seat print.tick)

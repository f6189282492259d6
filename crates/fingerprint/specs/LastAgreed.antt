-- Document 01, of the report: "as last agreed the highest own tick below it that no held remote digest denies; silence
-- counts as agreement". One's own cells are asked as they stand, and the remotes for the very tick that a cell holds.
-- Assumes nothing.
use Rattle.std.specs.Prelude.{ℕ, zero, suc, Option, None, Some, not, ltb}
use Rattle.logic.specs.Test.{when◌then◌else◌}
use Rattle.peer.specs.Cells.{history}
use Rattle.fingerprint.specs.declared.Fingerprint.{Fingerprint}
use Rattle.fingerprint.specs.declared.Fingerprints.{Fingerprints}
use Rattle.fingerprint.specs.Cells.{cell_at}
use Rattle.fingerprint.specs.Judging.{all_agree}

-- the tick of one's own cell, where it is below the tick and no remote denies it
unfoldable pub offer : Fingerprints → (remotes tick : ℕ) → Option Fingerprint → Option ℕ
offer p remotes tick None = None
offer p remotes tick (Some f) =
    when not (ltb f.tick tick) then None
    else when all_agree p remotes f.tick f.state then Some f.tick
    else None

-- the later of two ticks, where there are any
unfoldable pub higher : Option ℕ → Option ℕ → Option ℕ
higher None b = b
higher (Some a) None = Some a
higher (Some a) (Some b) = when ltb a b then Some b else Some a

-- the highest that the first n cells offer
unfoldable pub agreed_in : Fingerprints → (remotes tick n : ℕ) → Option ℕ
agreed_in p remotes tick zero = None
agreed_in p remotes tick (suc n) = higher (agreed_in p remotes tick n) (offer p remotes tick (cell_at p n))

-- over one's own cells, which are the first
unfoldable pub last_agreed : Fingerprints → (remotes tick : ℕ) → Option ℕ
last_agreed p remotes tick = agreed_in p remotes tick history

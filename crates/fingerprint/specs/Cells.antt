-- Document 01: "a digest goes in cell `tick & 15`", and a remote's "in its sender's cell `tick & 15`, over whatever
-- tick is there, older or newer"; "arrays of `Option<Fingerprint>` become flat numbers with a presence mark". One's own
-- sixteen cells are the first, then sixteen for each seat. The lists end there, so a seat above the last has no cell:
-- nothing is found past the end, and nothing is stored there. Assumes nothing.
use Rattle.std.specs.Prelude.{ℕ, ◌+◌, ◌*◌, Bool, true, false, List, Option, None, Some, eqb, get_or, set, replicate}
use Rattle.logic.specs.Test.{when◌then◌else◌}
use Rattle.peer.specs.Seats.{seats}
use Rattle.peer.specs.Cells.{history, digest_slot_of}
use Rattle.fingerprint.specs.declared.Fingerprint.{Fingerprint}
use Rattle.fingerprint.specs.declared.Fingerprints.{Fingerprints}

-- ---- which cell

-- one's own cells, and those of each seat
abbrev pub cells : ℕ
cells = (seats + 1) * history

-- the cell of a tick, of one's own prints and then of a seat's
unfoldable pub own_cell : ℕ → ℕ
own_cell tick = digest_slot_of tick

unfoldable pub remote_cell : (seat tick : ℕ) → ℕ
remote_cell seat tick = (seat + 1) * history + own_cell tick

-- ---- the prints of a cell

-- the prints of their four lists
abbrev pub prints_of : (held : List Bool) (ticks states inputs : List ℕ) → Fingerprints
prints_of held ticks states inputs = record { held = held; ticks = ticks; states = states; inputs = inputs }

-- no print yet
unfoldable pub no_prints : Fingerprints
no_prints = record {
  held = replicate cells false;
  ticks = replicate cells 0;
  states = replicate cells 0;
  inputs = replicate cells 0;
}

unfoldable pub cell_at : Fingerprints → ℕ → Option Fingerprint
cell_at p c =
    when get_or p.held c false
    then Some (record { tick = get_or p.ticks c 0; state = get_or p.states c 0; input = get_or p.inputs c 0 })
    else None

unfoldable pub stored_at : Fingerprints → ℕ → Fingerprint → Fingerprints
stored_at p c f = record {
  held = set p.held c true;
  ticks = set p.ticks c f.tick;
  states = set p.states c f.state;
  inputs = set p.inputs c f.input;
}

-- ---- by tick, and by seat

-- the cell as it stands, whatever tick it holds
unfoldable pub own : Fingerprints → ℕ → Option Fingerprint
own p tick = cell_at p (own_cell tick)

unfoldable pub remote : Fingerprints → (seat tick : ℕ) → Option Fingerprint
remote p seat tick = cell_at p (remote_cell seat tick)

unfoldable pub with_own : Fingerprints → Fingerprint → Fingerprints
with_own p f = stored_at p (own_cell f.tick) f

unfoldable pub with_remote : Fingerprints → ℕ → Fingerprint → Fingerprints
with_remote p seat f = stored_at p (remote_cell seat f.tick) f

-- a cell's print, where it is for that very tick
unfoldable pub of_tick : ℕ → Option Fingerprint → Option Fingerprint
of_tick tick None = None
of_tick tick (Some f) = when eqb f.tick tick then Some f else None

unfoldable pub own_for : Fingerprints → ℕ → Option Fingerprint
own_for p tick = of_tick tick (own p tick)

unfoldable pub remote_for : Fingerprints → (seat tick : ℕ) → Option Fingerprint
remote_for p seat tick = of_tick tick (remote p seat tick)

-- Document 01, "Pump and report": "The report takes local values from the cell as it stands (0 when empty), remote ones
-- only for the tick, and as last agreed the highest own tick below it that no held remote digest denies". And what
-- desync.rs reads off a report: dissenters, inputs_agree, witnessed. Assumes nothing.
use Rattle.std.specs.Prelude.{ℕ, Bool, true, false, not, ◌&&◌, List, Option, None, Some, eqb, get_or}
use Rattle.logic.specs.Test.{when◌then◌else◌}
use Rattle.logic.specs.Tabulate.{tabulate}
use Rattle.peer.specs.Seats.{seats, has, set_of, every, first_seats, removing, is_empty}
use Rattle.params.specs.Params.{agreement_of, remotes_of}
use Rattle.params.specs.declared.SessionParams.{SessionParams}
use Rattle.fingerprint.specs.Cells.{own, remote_for}
use Rattle.fingerprint.specs.LastAgreed.{last_agreed}
use Rattle.fingerprint.specs.declared.Fingerprint.{Fingerprint}
use Rattle.fingerprint.specs.declared.Fingerprints.{Fingerprints}
use Rattle.stats.specs.declared.SessionStats.{SessionStats}
use Rattle.desync.specs.declared.DesyncReport.{DesyncReport}
use Rattle.desync.specs.declared.Heard.{Heard}

-- ---- what a report says

-- the seats of the circle but the local one
unfoldable pub others_of : DesyncReport → ℕ
others_of r = removing seats (first_seats seats r.peer_count) r.local

-- seat k is asked, its number is there, and it is another than one's own
unfoldable pub differs : (asked there : ℕ) (numbers : List ℕ) (own k : ℕ) → Bool
differs asked there numbers own k = has asked k && has there k && not (eqb (get_or numbers k 0) own)

-- the others whose state is there and differs from one's own
unfoldable pub dissenters_of : DesyncReport → ℕ
dissenters_of r = set_of seats (differs (others_of r) r.states_in r.states r.local_state)

-- of no other is an input there that differs from one's own
unfoldable pub inputs_agree : DesyncReport → Bool
inputs_agree r = every seats (λ k. not (differs (others_of r) r.inputs_in r.inputs r.local_input k))

-- any state is there, of a seat in the circle or not
unfoldable pub is_witnessed : DesyncReport → Bool
is_witnessed r = not (is_empty seats r.states_in)

-- ---- a report is made

-- what a cell holds; zeros when it is empty
abbrev pub print_in : Option Fingerprint → Fingerprint
print_in None = record { tick = 0; state = 0; input = 0 }
print_in (Some f) = f

abbrev pub is_held : Option Fingerprint → Bool
is_held None = false
is_held (Some f) = true

-- what seat k reported for that very tick, if it is a remote
unfoldable pub heard_from : (remotes : ℕ) → Fingerprints → (tick k : ℕ) → Option Fingerprint
heard_from remotes prints tick k = when has remotes k then remote_for prints k tick else None

-- the same of all seats: which have reported, and their states and inputs, zero where they have not
unfoldable pub heard_all : (remotes : ℕ) → Fingerprints → (tick : ℕ) → Heard
heard_all remotes prints tick = record {
  there = set_of seats (λ k. is_held (heard_from remotes prints tick k));
  states = tabulate seats (λ k. (print_in (heard_from remotes prints tick k)).state);
  inputs = tabulate seats (λ k. (print_in (heard_from remotes prints tick k)).input);
}

unfoldable pub report_at : SessionParams → Fingerprints → SessionStats → (tick : ℕ) → DesyncReport
report_at p prints stats tick = record {
  tick = tick;
  local = p.local;
  peer_count = p.count;
  local_state = (print_in (own prints tick)).state;
  local_input = (print_in (own prints tick)).input;
  states_in = (heard_all (remotes_of p) prints tick).there;
  states = (heard_all (remotes_of p) prints tick).states;
  inputs_in = (heard_all (remotes_of p) prints tick).there;
  inputs = (heard_all (remotes_of p) prints tick).inputs;
  last_agreed = last_agreed prints (remotes_of p) tick;
  agreement = agreement_of p;
  content = p.content;
  rules = p.rules;
  seed = p.seed;
  stats = stats;
}

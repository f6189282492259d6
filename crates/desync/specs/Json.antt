-- desync.rs, `DesyncReportJson`: the text of a report, to the byte. Document 01: "Text is as desync.rs prints it".
-- Assumes nothing.
use Rattle.std.specs.Prelude.{ℕ, zero, suc, ◌+◌, ◌*◌, min, Bool, true, false, List, [], ◌∷◌, Option, None, Some, get_or}
use Rattle.logic.specs.Test.{when◌then◌else◌}
use Rattle.peer.specs.Seats.{seats, has, seat_count}
use Rattle.stats.specs.declared.SessionStats.{SessionStats}
use Rattle.text.specs.Ascii.{ascii}
use Rattle.text.specs.Decimal.{decimal}
use Rattle.text.specs.Hex.{hex16}
use Rattle.text.specs.Text.{join}
use Rattle.desync.specs.declared.DesyncReport.{DesyncReport}
use Rattle.desync.specs.Report.{dissenters_of, inputs_agree, is_witnessed}

-- ---- how long it gets

-- no text has more bytes: 89 for each seat, of which three digits twice, as a seat is a byte, and what does not
-- depend on the seats
abbrev pub report_most : ℕ
report_most = 651 + 89 * seats

-- ---- values

unfoldable pub flag_text : Bool → List ℕ
flag_text true = ascii "true"
flag_text false = ascii "false"

-- `"{:#018x}"`
unfoldable pub digest_text : ℕ → List ℕ
digest_text n = join (ascii "\"0x" ∷ hex16 n ∷ ascii "\"" ∷ [])

-- seat k's digest, where it is there
unfoldable pub seat_digest : (there : ℕ) (numbers : List ℕ) (k : ℕ) → List ℕ
seat_digest there numbers k = when has there k then digest_text (get_or numbers k 0) else ascii "null"

unfoldable pub tick_text : Option ℕ → List ℕ
tick_text (Some tick) = decimal tick
tick_text None = ascii "null"

-- ---- lists

-- what goes before the element at a position: `if position > 0`, a comma
unfoldable pub comma : ℕ → List ℕ
comma zero = []
comma (suc position) = ascii ","

-- the seats below k of a set: a seat's position is how many of the set are below it
unfoldable pub seat_list : (set k : ℕ) → List ℕ
seat_list set zero = []
seat_list set (suc k) =
    when has set k then join (seat_list set k ∷ comma (seat_count k set) ∷ decimal k ∷ []) else seat_list set k

-- one seat of the circle, whose position is its number
unfoldable pub peer_text : DesyncReport → ℕ → List ℕ
peer_text r k = join (
    comma k
    ∷ ascii "{\"seat\":" ∷ decimal k
    ∷ ascii ",\"state_digest\":" ∷ seat_digest r.states_in r.states k
    ∷ ascii ",\"input_digest\":" ∷ seat_digest r.inputs_in r.inputs k
    ∷ ascii "}" ∷ [])

-- the seats below k
unfoldable pub peer_list : DesyncReport → ℕ → List ℕ
peer_list r zero = []
peer_list r (suc k) = join (peer_list r k ∷ peer_text r k ∷ [])

-- ---- the fields, in their order

unfoldable pub head_text : DesyncReport → List ℕ
head_text r = join (
    ascii "{\"schema_version\":1,\"tick\":" ∷ decimal r.tick
    ∷ ascii ",\"local\":" ∷ decimal r.local
    ∷ ascii ",\"peer_count\":" ∷ decimal r.peer_count ∷ [])

unfoldable pub verdict_text : DesyncReport → List ℕ
verdict_text r = join (
    ascii ",\"inputs_agree\":" ∷ flag_text (inputs_agree r)
    ∷ ascii ",\"witnessed\":" ∷ flag_text (is_witnessed r) ∷ [])

unfoldable pub own_text : DesyncReport → List ℕ
own_text r = join (
    ascii ",\"local_state_digest\":" ∷ digest_text r.local_state
    ∷ ascii ",\"local_input_digest\":" ∷ digest_text r.local_input
    ∷ ascii ",\"last_agreed_tick\":" ∷ tick_text r.last_agreed ∷ [])

unfoldable pub lists_text : DesyncReport → List ℕ
lists_text r = join (
    ascii ",\"dissenters\":[" ∷ seat_list (dissenters_of r) seats
    ∷ ascii "],\"peers\":[" ∷ peer_list r (min r.peer_count seats) ∷ [])

unfoldable pub agreed_text : DesyncReport → List ℕ
agreed_text r = join (
    ascii "],\"agreement_digest\":" ∷ digest_text r.agreement
    ∷ ascii ",\"content\":" ∷ digest_text r.content
    ∷ ascii ",\"rules\":" ∷ digest_text r.rules
    ∷ ascii ",\"seed\":" ∷ decimal r.seed ∷ [])

unfoldable pub stats_text : SessionStats → List ℕ
stats_text s =
    join
    (ascii ",\"stats\":{\"datagrams_refused\":" ∷ decimal s.datagrams_refused
    ∷ ascii ",\"frames_repeated\":" ∷ decimal s.frames_repeated
    ∷ ascii ",\"frames_contradicted\":" ∷ decimal s.frames_contradicted
    ∷ ascii ",\"frames_out_of_window\":" ∷ decimal s.frames_out_of_window
    ∷ ascii ",\"digests_contradicted\":" ∷ decimal s.digests_contradicted
    ∷ ascii ",\"stall_pumps\":" ∷ decimal s.stall_pumps
    ∷ ascii "}}" ∷ [])

unfoldable pub report_text : DesyncReport → List ℕ
report_text r = join (head_text r ∷ verdict_text r ∷ own_text r ∷ lists_text r ∷ agreed_text r ∷ stats_text r.stats ∷ [])

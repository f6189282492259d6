-- Document 01, numbers 11 to 16 and 20, and "params.rs: checks, agreement number".
-- Assumes nothing.
use Rattle.std.specs.Prelude.{ℕ, Bool, not, List, ◌++◌, eqb, ltb, Result, Ok, Err}
use Rattle.logic.specs.Test.{when◌then◌else◌}
use Rattle.logic.specs.Range.{outside}
use Rattle.logic.specs.Numbered.{done_no, result_no}
use Rattle.hash.specs.Fnv.{start, fnv, le_bytes}
use Rattle.peer.specs.Seats.{seats, first_seats, removing}
use Rattle.peer.specs.Cells.{window}
use Rattle.params.specs.declared.SessionParams.{SessionParams}
use Rattle.params.specs.declared.ParamsError.{ParamsError}
use Rattle.params.specs.declared.ParamsError.TheVariants.{PeerCount, LocalNotInRoster, InputBytes}
use Rattle.params.specs.declared.ParamsError.TheVariants.{InputDelay, DigestPeriodZero, SessionZero}
use Rattle.params.specs.declared.BadState.{BadState}

-- the smallest circle
abbrev pub min_peers : ℕ
min_peers = 2

-- the widest input of one seat and tick
abbrev pub max_width : ℕ
max_width = 16

-- the longest delay: one below the window
abbrev pub max_delay : ℕ
max_delay = 63

-- parameters that no open takes
abbrev pub zero_params : SessionParams
zero_params =
    record { count = 0; local = 0; width = 0; delay = 0; period = 0; seed = 0; content = 0; rules = 0; session = 0 }

-- ---- 11 to 16

-- count not 2..8; local not below count; width not 1..16; delay above 63; period 0; session 0: the first that holds,
-- with the values that the Rust's `ParamsError` carries
unfoldable pub validity : SessionParams → Result (Unit {0}) ParamsError
validity p =
    when outside min_peers seats p.count then Err (PeerCount p.count min_peers seats)
    else when not (ltb p.local p.count) then Err (LocalNotInRoster p.local p.count)
    else when outside 1 max_width p.width then Err (InputBytes p.width max_width)
    else when ltb max_delay p.delay then Err (InputDelay p.delay window)
    else when eqb p.period 0 then Err DigestPeriodZero
    else when eqb p.session 0 then Err SessionZero
    else Ok tt

-- the number of each refusal
abbrev pub error_no : ParamsError → ℕ
error_no (PeerCount saw floor ceiling) = 11
error_no (LocalNotInRoster local count) = 12
error_no (InputBytes saw ceiling) = 13
error_no (InputDelay saw limit) = 14
error_no DigestPeriodZero = 15
error_no SessionZero = 16

-- the number of each answer: 0 of parameters that pass
abbrev pub validity_no : Result (Unit {0}) ParamsError → ℕ
validity_no = result_no done_no error_no

-- 20: the record's parameters fail 11 to 16
unfoldable pub bad_state : SessionParams → Bool
bad_state p = not (eqb (validity_no (validity p)) 0)

abbrev pub bad_state_no : BadState → ℕ
bad_state_no bad = 20

-- what a session call over them is refused with
unfoldable pub check_of : SessionParams → Result (Unit {0}) BadState
check_of p = when bad_state p then Err (record {}) else Ok tt

-- ---- the agreement number

-- version 3 as u32; content, rules, seed as u64; peer count, width, delay, period as u32
unfoldable pub agreement_bytes : SessionParams → List ℕ
agreement_bytes p =
    le_bytes 4 3 ++ le_bytes 8 p.content ++ le_bytes 8 p.rules ++ le_bytes 8 p.seed
    ++ le_bytes 4 p.count ++ le_bytes 4 p.width ++ le_bytes 4 p.delay ++ le_bytes 4 p.period

unfoldable pub agreement_of : SessionParams → ℕ
agreement_of p = fnv start (agreement_bytes p)

-- ---- who takes part

-- every seat of the circle
unfoldable pub roster_of : SessionParams → ℕ
roster_of p = first_seats seats p.count

-- every seat but the local one
unfoldable pub remotes_of : SessionParams → ℕ
remotes_of p = removing seats (roster_of p) p.local

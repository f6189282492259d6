-- Document 01, "The script runner `circle`": "records: u16 payload length, u16 kind, payload, little-endian. Payload
-- fields are u64, but one byte for seats, the flag and what is u8 in the Rust", and the kinds 1 to 12 with their
-- payloads. Assumes nothing.
use Rattle.std.specs.Prelude.{ℕ, zero, suc, ◌+◌, ◌-◌, ◌*◌, min, Bool, true, false, not, ◌&&◌, List, eqb, ltb, leb, length, drop, get_or, Option, Some, None}
use Rattle.logic.specs.Test.{when◌then◌else◌}
use Rattle.params.specs.declared.SessionParams.{SessionParams}
use Rattle.wire.specs.declared.Body.{Body}
use Rattle.wire.specs.declared.Body.TheVariants.{Hello, Inputs, Digest, Bye, Other}
use Rattle.wire.specs.declared.Message.{Message}
use Rattle.script.specs.declared.Call.{Call}
use Rattle.script.specs.declared.Call.TheVariants.{Submit, Deliver, Advance, Commit, Leave, Pump, Report}
use Rattle.script.specs.declared.Asked.{Asked}
use Rattle.script.specs.declared.Asked.TheVariants.{Bad, Open, Of}

-- ---- fields

-- one byte; there is nothing past the end, and a right length leaves none unread there
abbrev pub u8 : List ℕ → ℕ → ℕ
u8 p place = get_or p place 0

-- a number of n bytes, the lowest first
unfoldable pub le : List ℕ → (place n : ℕ) → ℕ
le p place zero = 0
le p place (suc n) = u8 p place + le p (place + 1) n * 256

abbrev pub u16 : List ℕ → ℕ → ℕ
u16 p place = le p place 2

abbrev pub u64 : List ℕ → ℕ → ℕ
u64 p place = le p place 8

-- ---- where a record ends

abbrev pub header : ℕ
header = 4

-- the longest record: a header and as long a payload as its length can say
abbrev pub longest : ℕ
longest = 65539

-- how many bytes the first record has, once all of them are there
unfoldable pub record_size : List ℕ → Option ℕ
record_size bytes =
    when ltb (length bytes) header then None
    else when ltb (length bytes) (header + u16 bytes 0) then None
    else Some (header + u16 bytes 0)

-- how many bytes a record that has begun waits for: those of its header, and then those of its payload
unfoldable pub record_lacks : List ℕ → ℕ
record_lacks bytes =
    when ltb (length bytes) header then header - length bytes
    else header + u16 bytes 0 - length bytes

-- ---- what a record asks

-- "a script kind from 1 to 12 with its right length (Inputs 20 to 148)": the sizes of each payload's fields together
unfoldable pub right_length : (kind n : ℕ) → Bool
right_length kind n =
    when eqb kind 1 then eqb n (5 + 4 * 8)
    else when eqb kind 2 then true
    else when eqb kind 3 then eqb n (2 + 8 + 4 * 8 + 4)
    else when eqb kind 4 then leb 20 n && leb n 148
    else when eqb kind 5 then eqb n (2 + 8 + 3 * 8)
    else when eqb kind 6 then eqb n (2 + 8 + 8)
    else when eqb kind 7 then eqb n (2 + 8 + 1)
    else when eqb kind 8 then eqb n 0
    else when eqb kind 9 then eqb n (8 + 1 + 8)
    else when leb 10 kind && leb kind 12 then eqb n 0
    else false

-- 1 open: peer count, local, width, delay, period, then seed, content, rules, session
unfoldable pub params_from : List ℕ → SessionParams
params_from p = record {
  count = u8 p 0;
  local = u8 p 1;
  width = u8 p 2;
  delay = u8 p 3;
  period = u8 p 4;
  seed = u64 p 5;
  content = u64 p 13;
  rules = u64 p 21;
  session = u64 p 29;
}

-- 3 Hello, 4 Inputs, 5 Digest, 6 Bye: the Rust record's fields in order, after source, sender and session; 7 other: a
-- byte
unfoldable pub body_from : ℕ → List ℕ → Body
body_from kind p =
    when eqb kind 3 then Hello (record {
      agreement = u64 p 10;
      content = u64 p 18;
      rules = u64 p 26;
      seed = u64 p 34;
      count = u8 p 42;
      width = u8 p 43;
      delay = u8 p 44;
      period = u8 p 45;
    })
    else when eqb kind 4 then Inputs (record { first = u64 p 10; count = u8 p 18; width = u8 p 19 })
    else when eqb kind 5 then Digest (record { tick = u64 p 10; state = u64 p 18; input = u64 p 26 })
    else when eqb kind 6 then Bye (record { tick = u64 p 10 })
    else Other (u8 p 10)

unfoldable pub message_from : ℕ → List ℕ → Message
message_from kind p = record { sender = u8 p 1; session = u64 p 2; body = body_from kind p }

-- what a commit says of the world: "flag 0 means none given, any other given"
unfoldable pub world_of : (flag digest : ℕ) → Option ℕ
world_of flag digest = when eqb flag 0 then None else Some digest

-- 2 submit; 3 to 7 a message, its source first; 8 advance; 9 commit: tick, flag, digest; 10 leave; 11 pump; 12 report
unfoldable pub call_from : ℕ → List ℕ → Call
call_from kind p =
    when eqb kind 2 then Submit
    else when leb 3 kind && leb kind 7 then Deliver (u8 p 0) (message_from kind p)
    else when eqb kind 8 then Advance
    else when eqb kind 9 then Commit (u64 p 0) (world_of (u8 p 8) (u64 p 9))
    else when eqb kind 10 then Leave
    else when eqb kind 11 then Pump
    else Report

abbrev pub kind_of : List ℕ → ℕ
kind_of r = u16 r 2

abbrev pub payload_of : List ℕ → List ℕ
payload_of r = drop header r

-- a record with its right length is run; another is bad
unfoldable pub asked : List ℕ → Asked
asked r =
    when ltb (length r) header then Bad
    else when not (right_length (kind_of r) (length (payload_of r))) then Bad
    else when eqb (kind_of r) 1 then Open (params_from (payload_of r))
    else Of (call_from (kind_of r) (payload_of r))

-- what goes beside a call: a submit's bytes, and an Inputs' run, which is last; it begins here in a record of n bytes
unfoldable pub rest_start : (kind n : ℕ) → ℕ
rest_start kind n =
    when eqb kind 2 then min header n
    else when eqb kind 4 then min (header + 20) n
    else n

unfoldable pub rest_of : List ℕ → List ℕ
rest_of r = drop (rest_start (kind_of r) (length r)) r

-- Document 01, "Message records from wire.rs", and the malformed reasons: lowest number wins, only those that fit the
-- kind. Assumes nothing.
use Rattle.std.specs.Prelude.{ℕ, ◌+◌, ◌*◌, not, List, eqb, ltb, length, Result, Ok, Err}
use Rattle.logic.specs.Test.{when◌then◌else◌}
use Rattle.logic.specs.Range.{outside}
use Rattle.logic.specs.Saturating.{most}
use Rattle.logic.specs.Numbered.{done_no, result_no}
use Rattle.peer.specs.Seats.{seats}
use Rattle.peer.specs.Cells.{window}
use Rattle.params.specs.Params.{min_peers, max_width, max_delay}
use Rattle.wire.specs.declared.HelloBody.{HelloBody}
use Rattle.wire.specs.declared.InputsBody.{InputsBody}
use Rattle.wire.specs.declared.Body.{Body}
use Rattle.wire.specs.declared.Body.TheVariants.{Hello, Inputs, Digest, Bye, Other}
use Rattle.wire.specs.declared.Message.{Message}
use Rattle.wire.specs.declared.WireError.{WireError}
use Rattle.wire.specs.declared.WireError.TheVariants.{SenderPastCeiling, SessionZero, PeerCount}
use Rattle.wire.specs.declared.WireError.TheVariants.{InputBytes, InputDelay, DigestPeriodZero}
use Rattle.wire.specs.declared.WireError.TheVariants.{FrameCount, RunLength, TickOverflow, UnknownKind}

-- how many frames an Inputs carries at most
abbrev pub redundancy : ℕ
redundancy = 8

-- the number of each reason
abbrev pub reason_no : WireError → ℕ
reason_no (SenderPastCeiling saw ceiling) = 1
reason_no SessionZero = 2
reason_no (PeerCount saw floor ceiling) = 3
reason_no (InputBytes saw ceiling) = 4
reason_no (InputDelay saw limit) = 5
reason_no DigestPeriodZero = 6
reason_no (FrameCount saw ceiling) = 7
reason_no (RunLength declared actual) = 8
reason_no (TickOverflow first count) = 9
reason_no (UnknownKind saw) = 10

-- the reason's number, and 0 of a good form
abbrev pub form_no : Result (Unit {0}) WireError → ℕ
form_no = result_no done_no reason_no

-- Hello and Inputs: 4 width
unfoldable pub width_form : ℕ → Result (Unit {0}) WireError
width_form width = when outside 1 max_width width then Err (InputBytes width max_width) else Ok tt

-- Hello: 3 peer count, 4 width, 5 delay, 6 period
unfoldable pub hello_form : HelloBody → Result (Unit {0}) WireError
hello_form h =
    when outside min_peers seats h.count then Err (PeerCount h.count min_peers seats)
    else when outside 1 max_width h.width then Err (InputBytes h.width max_width)
    else when ltb max_delay h.delay then Err (InputDelay h.delay window)
    else when eqb h.period 0 then Err DigestPeriodZero
    else Ok tt

-- Inputs, with the length of its run: 4 width, 7 frame count not 1..8, 8 run length not count times width, 9 first tick
-- plus count above 2^64-1
unfoldable pub inputs_form : InputsBody → ℕ → Result (Unit {0}) WireError
inputs_form i run =
    when outside 1 max_width i.width then Err (InputBytes i.width max_width)
    else when outside 1 redundancy i.count then Err (FrameCount i.count redundancy)
    else when not (eqb run (i.count * i.width)) then Err (RunLength (i.count * i.width) run)
    else when ltb most (i.first + i.count) then Err (TickOverflow i.first i.count)
    else Ok tt

-- another kind: 10 not 1..4
unfoldable pub other_form : ℕ → Result (Unit {0}) WireError
other_form kind = when outside 1 4 kind then Err (UnknownKind kind) else Ok tt

-- the reasons that fit the kind
unfoldable pub body_form : Body → ℕ → Result (Unit {0}) WireError
body_form (Hello h) run = hello_form h
body_form (Inputs i) run = inputs_form i run
body_form (Digest d) run = Ok tt
body_form (Bye b) run = Ok tt
body_form (Other kind) run = other_form kind

-- of every kind: 1 sender above 7, 2 session 0; then its own
unfoldable pub form_of : Message → List ℕ → Result (Unit {0}) WireError
form_of m run =
    when not (ltb m.sender seats) then Err (SenderPastCeiling m.sender seats)
    else when eqb m.session 0 then Err SessionZero
    else body_form m.body (length run)

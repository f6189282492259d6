-- What the trace form prints beside the runner's lines, for a comparison of whole sessions: after `send` the message
-- whole, and after every record all six counters, pending, next local tick, playing, `wants_local`, input digest and
-- outcome. A truth is 1 or 0, and no outcome is `0 - 0`. Assumes nothing.
use Rattle.std.specs.Prelude.{ℕ, ◌*◌, Bool, List, [], ◌∷◌, ◌++◌, take, Option, None, Some}
use Rattle.logic.specs.Test.{when◌then◌else◌}
use Rattle.text.specs.Ascii.{ascii}
use Rattle.text.specs.Text.{join}
use Rattle.text.specs.Decimal.{decimal}
use Rattle.text.specs.Hex.{hex_bytes}
use Rattle.wire.specs.declared.HelloBody.{HelloBody}
use Rattle.wire.specs.declared.InputsBody.{InputsBody}
use Rattle.wire.specs.declared.Body.{Body}
use Rattle.wire.specs.declared.Body.TheVariants.{Hello, Inputs, Digest, Bye, Other}
use Rattle.wire.specs.declared.Message.{Message}
use Rattle.stats.specs.declared.SessionStats.{SessionStats}
use Rattle.session.specs.declared.Outcome.{Outcome}
use Rattle.pump.specs.declared.Outbound.{Outbound}
use Rattle.pump.specs.declared.Outbound.TheVariants.{Send, Nothing, BadState}
use Rattle.lines.specs.Lines.{flag_text, outcome_text, send_line}

unfoldable pub spaced : ℕ → List ℕ
spaced n = join (ascii " " ∷ decimal n ∷ [])

-- ---- a message

unfoldable pub hello_whole : HelloBody → List ℕ
hello_whole b =
    join (spaced b.agreement ∷ spaced b.content ∷ spaced b.rules ∷ spaced b.seed ∷ spaced b.count
    ∷ spaced b.width ∷ spaced b.delay ∷ spaced b.period ∷ [])

-- the run is its frames: the bytes past them are none of the message's
unfoldable pub inputs_whole : InputsBody → List ℕ → List ℕ
inputs_whole b run =
    join (spaced b.first ∷ spaced b.count ∷ spaced b.width ∷ ascii " "
    ∷ hex_bytes (take (b.count * b.width) run) ∷ [])

unfoldable pub body_whole : Body → List ℕ → List ℕ
body_whole (Hello b) run = hello_whole b
body_whole (Inputs b) run = inputs_whole b run
body_whole (Digest b) run = join (spaced b.tick ∷ spaced b.state ∷ spaced b.input ∷ [])
body_whole (Bye b) run = spaced b.tick
body_whole (Other kind) run = spaced kind

-- sender and session, then what the kind holds
unfoldable pub message_whole : Message → List ℕ → List ℕ
message_whole m run = join (decimal m.sender ∷ spaced m.session ∷ body_whole m.body run ∷ [])

unfoldable pub sent_line : Outbound → List ℕ → List ℕ
sent_line (Send peer message) run = join (ascii "> " ∷ message_whole message run ∷ ascii "\n" ∷ [])
sent_line Nothing run = []
sent_line BadState run = []

-- a pump's line and, in the trace form, the message
unfoldable pub send_lines : Outbound → List ℕ → Bool → List ℕ
send_lines answer run traced = send_line answer ++ (when traced then sent_line answer run else [])

-- ---- a session

unfoldable pub standing_text : Option Outcome → List ℕ
standing_text None = ascii "0 - 0"
standing_text (Some o) = outcome_text o

unfoldable pub counters_text : SessionStats → List ℕ
counters_text s =
    join (decimal s.datagrams_refused ∷ spaced s.frames_repeated ∷ spaced s.frames_contradicted
    ∷ spaced s.frames_out_of_window ∷ spaced s.digests_contradicted ∷ spaced s.stall_pumps ∷ [])

unfoldable pub state_line : SessionStats → (pending next : ℕ) → (playing wants : Bool) → (digest : ℕ) → Option Outcome
    → List ℕ
state_line stats pending next playing wants digest outcome =
    join (ascii "= " ∷ counters_text stats ∷ spaced pending ∷ spaced next ∷ ascii " " ∷ flag_text playing ∷ ascii " "
    ∷ flag_text wants ∷ spaced digest ∷ ascii " " ∷ standing_text outcome ∷ ascii "\n" ∷ [])

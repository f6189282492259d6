-- Document 01, "Pump and report": "A pass goes kind by kind, each over the remotes by rising seat: Hello while joining,
-- or while playing until every remote's playing mark is set; Inputs while playing; then Digest if owed (the last
-- committed one stays owed). The first kind is chosen when the pass before ends, Hello at the start; the next one by
-- the call that finds no remote left. After an outcome a running pass goes from Inputs on to Digest, but from Hello to
-- its end; later passes send Bye, with pending minus one (0 at 0). The leave that ends a session restarts at Bye. With
-- no other call between, at most 21 messages precede 71. Inputs carries the newest local frame and up to seven before
-- it, stopping at the first no longer held. A remote's frame 64 ticks ahead empties that cell, so fewer than 8 may go;
-- with the newest gone, Inputs is skipped." What carries frames goes by the window too, all else by the head alone.
-- Assumes nothing.
use Rattle.std.specs.Prelude.{ℕ, zero, suc, ◌+◌, ◌-◌, ◌*◌, ◌/◌, ◌%◌, min, Bool, true, false, ◌&&◌, List}
use Rattle.std.specs.Prelude.{Option, None, Some, eqb, ltb, get_or, replicate}
use Rattle.logic.specs.Test.{when◌then◌else◌}
use Rattle.logic.specs.Tabulate.{tabulate}
use Rattle.peer.specs.Seats.{seats, has, is_subset}
use Rattle.params.specs.Params.{max_width, bad_state, remotes_of, agreement_of}
use Rattle.params.specs.declared.SessionParams.{SessionParams}
use Rattle.wire.specs.Wire.{redundancy}
use Rattle.wire.specs.declared.Body.{Body}
use Rattle.wire.specs.declared.Body.TheVariants as Body'
use Rattle.wire.specs.declared.HelloBody.{HelloBody}
use Rattle.window.specs.Window.{is_held, frame_of}
use Rattle.window.specs.declared.Window.{Window}
use Rattle.fingerprint.specs.declared.Fingerprint.{Fingerprint}
use Rattle.session.specs.Session.{with_head, with_pass, is_over, is_playing, last_committed}
use Rattle.session.specs.declared.Emit.{Emit}
use Rattle.session.specs.declared.Emit.TheVariants.{Hello, Inputs, Digest, Bye, Done}
use Rattle.session.specs.declared.Head.{Head}
use Rattle.session.specs.declared.Session.{Session}
use Rattle.pump.specs.declared.Outbound.{Outbound}
use Rattle.pump.specs.declared.Outbound.TheVariants.{Send, Nothing, BadState}
use Rattle.pump.specs.declared.Pumped.{Pumped}

-- ---- over the remotes by rising seat

-- the first of n seats from `place` on that is in the set
unfoldable pub next_remote : (remotes place n : ℕ) → Option ℕ
next_remote remotes place zero = None
next_remote remotes place (suc n) = when has remotes place then Some place else next_remote remotes (place + 1) n

-- the first remote from `place` on
unfoldable pub target_of : Head → ℕ → Option ℕ
target_of h place = next_remote (remotes_of h.params) place (seats - place)

-- ---- the newest local frame and up to seven before it, stopping at the first no longer held

-- how many frames of the seat are held without a gap from the tick back, of at most n
unfoldable pub span : Window → (seat tick n : ℕ) → ℕ
span w seat tick zero = 0
span w seat tick (suc n) =
    when is_held w seat tick
    then (when eqb tick 0 then 1 else suc (span w seat (tick - 1) n))
    else 0

-- how many go: none before the first submit, and none with the newest gone
unfoldable pub carried : Head → Window → ℕ
carried h w =
    let next = h.play.next_local in
    when eqb next 0 then 0 else span w h.params.local (next - 1) redundancy

-- the tick of the first of them
abbrev pub first_tick : Head → Window → ℕ
first_tick h w = h.play.next_local - carried h w

-- the longest run
abbrev pub run_bytes : ℕ
run_bytes = redundancy * max_width

unfoldable pub no_run : List ℕ
no_run = replicate run_bytes 0

-- byte j of the run of `count` frames of a seat from the tick `first` on: byte j mod width of frame j div width, and
-- zero past the frames
unfoldable pub run_byte : Window → (seat first count width j : ℕ) → ℕ
run_byte w seat first count width j =
    when ltb j (count * width)
    then get_or (frame_of w seat (first + j / width) width) (j % width) 0
    else 0

unfoldable pub run_from : Window → (seat first count width : ℕ) → List ℕ
run_from w seat first count width = tabulate run_bytes (run_byte w seat first count width)

-- the run of an Inputs
unfoldable pub run_of : Head → Window → List ℕ
run_of h w = run_from w h.params.local (first_tick h w) (carried h w) h.params.width

-- ---- what each kind says

unfoldable pub hello_of : SessionParams → HelloBody
hello_of p = record {
  agreement = agreement_of p;
  content = p.content;
  rules = p.rules;
  seed = p.seed;
  count = p.count;
  width = p.width;
  delay = p.delay;
  period = p.period;
}

-- with the newest gone, Inputs is skipped
unfoldable pub inputs_of : Head → Window → Option Body
inputs_of h w =
    when eqb (carried h w) 0 then None
    else Some (Body'.Inputs (record { first = first_tick h w; count = carried h w; width = h.params.width }))

-- the digest that is owed
unfoldable pub digest_of : Option Fingerprint → Option Body
digest_of None = None
digest_of (Some f) = Some (Body'.Digest (record { tick = f.tick; state = f.state; input = f.input }))

-- Bye with pending minus one, 0 at 0
unfoldable pub saying : Head → Window → Emit → Option Body
saying h w Hello = Some (Body'.Hello (hello_of h.params))
saying h w Inputs = inputs_of h w
saying h w Digest = digest_of h.owed
saying h w Bye = Some (Body'.Bye (record { tick = last_committed h }))
saying h w Done = None

unfoldable pub addressed : ℕ → Option Body → Option (ℕ × Body)
addressed k None = None
addressed k (Some body) = Some (k, body)

unfoldable pub say_to : Head → Window → Emit → Option ℕ → Option (ℕ × Body)
say_to h w emit None = None
say_to h w emit (Some k) = addressed k (saying h w emit)

-- a kind's next message: to the first remote from `place` on, where there is one and the kind has something to say. A
-- kind that has not skips all its remotes
unfoldable pub say : Head → Window → Emit → ℕ → Option (ℕ × Body)
say h w emit place = say_to h w emit (target_of h place)

-- ---- the end of a pass

-- after an outcome Bye; Inputs while playing, once every remote's playing mark is set; else Hello
unfoldable pub first_kind : Head → Emit
first_kind h =
    when is_over h.outcome then Bye
    else when is_playing h && is_subset seats (remotes_of h.params) h.marks.playing then Inputs
    else Hello

-- the head, the answer, and the run beside it
pub record HeadPumped : Type 0 where
  pub head : Head
  pub answer : Outbound
  pub run : List ℕ

abbrev pub sent_with : Head → Outbound → List ℕ → HeadPumped
sent_with h answer run = record { head = h; answer = answer; run = run }

-- an answer with no run
unfoldable pub quiet : Head → Outbound → HeadPumped
quiet h answer = sent_with h answer no_run

-- the first kind of the next pass is chosen when this one ends
unfoldable pub pass_ends : Head → HeadPumped
pass_ends h = quiet (with_pass h (record { kind = first_kind h; place = 0 })) Nothing

-- ---- a message

-- the frames of an Inputs, and nothing beside another kind
unfoldable pub run_beside : Head → Window → Body → List ℕ
run_beside h w (Body'.Hello b) = no_run
run_beside h w (Body'.Inputs b) = run_of h w
run_beside h w (Body'.Digest b) = no_run
run_beside h w (Body'.Bye b) = no_run
run_beside h w (Body'.Other kind) = no_run

-- from the local seat, over the session's number; the pass goes on after this remote
unfoldable pub send : Head → Window → Emit → ℕ → Body → HeadPumped
send h w emit k body = record {
  head = with_pass h (record { kind = emit; place = min (k + 1) 255 });
  answer = Send k (record { sender = h.params.local; session = h.params.session; body = body });
  run = run_beside h w body;
}

-- a kind's next message, or what comes after the kind
unfoldable pub sent : Head → Window → Emit → Option (ℕ × Body) → HeadPumped → HeadPumped
sent h w emit None rest = rest
sent h w emit (Some (k, body)) rest = send h w emit k body

-- ---- a pass, kind by kind

abbrev pub is_owed : Option Fingerprint → Bool
is_owed None = false
is_owed (Some f) = true

unfoldable pub pump_digest : Head → Window → ℕ → HeadPumped
pump_digest h w place = sent h w Digest (say h w Digest place) (pass_ends h)

-- then Digest if owed
unfoldable pub pump_inputs : Head → Window → ℕ → HeadPumped
pump_inputs h w place =
    sent h w Inputs (say h w Inputs place) (when is_owed h.owed then pump_digest h w 0 else pass_ends h)

-- Inputs while playing: after an outcome a pass goes from Hello to its end
unfoldable pub pump_hello : Head → Window → ℕ → HeadPumped
pump_hello h w place = sent h w Hello (say h w Hello place) (when is_playing h then pump_inputs h w 0 else pass_ends h)

unfoldable pub pump_bye : Head → Window → ℕ → HeadPumped
pump_bye h w place = sent h w Bye (say h w Bye place) (pass_ends h)

unfoldable pub pump_from : Head → Window → Emit → HeadPumped
pump_from h w Hello = pump_hello h w h.pass.place
pump_from h w Inputs = pump_inputs h w h.pass.place
pump_from h w Digest = pump_digest h w h.pass.place
pump_from h w Bye = pump_bye h w h.pass.place
pump_from h w Done = pass_ends h

-- 20 before anything else, with nothing changed
unfoldable pub pump_head : Head → Window → HeadPumped
pump_head h w = when bad_state h.params then quiet h BadState else pump_from h w h.pass.kind

-- ---- the call: a pump changes nothing but the head

abbrev pub pumped_with : Session → Outbound → List ℕ → Pumped
pumped_with s answer run = record { session = s; answer = answer; run = run }

abbrev pub pumped : Session → HeadPumped → Pumped
pumped s r = pumped_with (with_head s r.head) r.answer r.run

unfoldable pub pump : Session → Pumped
pump s = pumped s (pump_head s.head s.window)

-- Worked examples, computed from the definitions: the three pumps of document 01's case R, a whole pass of three seats,
-- and what an Inputs carries once a remote's frame 64 ticks ahead has emptied a cell. Assumes nothing.
use Prim.Native.Nat.{ℕ, zero, suc}
use mathlib.Core.Path.{◌≡◌, refl}
use mathlib.Core.Bool.{Bool, true, false}
use mathlib.Core.List.{List, [], ◌∷◌}
use lib.ListN.{replicate}
use Rattle.std.specs.Prelude.{Option, None, Some}
use Rattle.logic.specs.Saturating.{most}
use Rattle.params.specs.declared.SessionParams.{SessionParams}
use Rattle.wire.specs.declared.Body.{Body}
use Rattle.wire.specs.declared.Body.TheVariants as Body'
use Rattle.window.specs.Window.{fresh_window, write_frame}
use Rattle.window.specs.declared.Window.{Window}
use Rattle.fingerprint.specs.Cells.{no_prints}
use Rattle.stats.specs.Stats.{no_stats}
use Rattle.session.specs.Session.{session_of}
use Rattle.session.specs.declared.Outcome.TheVariants.{PeerLeft}
use Rattle.session.specs.declared.Outcome.{Outcome}
use Rattle.session.specs.declared.Emit.TheVariants.{Hello}
use Rattle.session.specs.declared.Session.{Session}
use Rattle.pump.specs.declared.Outbound.{Outbound}
use Rattle.pump.specs.declared.Outbound.TheVariants.{Send, Nothing, BadState}
use Rattle.pump.specs.Pump.{carried, run_of, pump}
use Rattle.pump.proofs.Computing.{pumping}
use Rattle.pump.proofs.Laws.{pass_most}

-- kind, tick and count, as the script runner prints them
said : Body → List ℕ
said (Body'.Hello b) = 3 ∷ 0 ∷ 0 ∷ []
said (Body'.Inputs b) = 4 ∷ b.first ∷ b.count ∷ []
said (Body'.Digest b) = 5 ∷ b.tick ∷ 0 ∷ []
said (Body'.Bye b) = 6 ∷ b.tick ∷ 0 ∷ []
said (Body'.Other kind) = 7 ∷ 0 ∷ 0 ∷ []

line : Outbound → List ℕ
line (Send k m) = k ∷ said m.body
line Nothing = 71 ∷ []
line BadState = 20 ∷ []

-- n pumps in a row
lines : ℕ → Session → List (List ℕ)
lines zero s = []
lines (suc n) s = line (pump s).answer ∷ lines n (pump s).session

-- one byte a tick, and a digest for each; `count` seats, of which this is `local`
seated : (count local : ℕ) → SessionParams
seated count local = record {
  count = count;
  local = local;
  width = 1;
  delay = 0;
  period = 1;
  seed = 0;
  content = 0;
  rules = 0;
  session = 9;
}

at : SessionParams → Window → (pending next seen : ℕ) → Bool → Option Outcome → Session
at p w pending next seen playing outcome = session_of (record {
  params = p;
  play = record { pending = pending; next_local = next; digest = 0; step = None; stalled = most };
  marks = record { hellos = 1; playing = seen; started = playing };
  pass = record { kind = Hello; place = 0 };
  owed = Some (record { tick = 0; state = 5; input = 0 });
  outcome = outcome;
  stats = no_stats;
}) w no_prints

-- case R: seat 1 has left, tick 0 is played, and the pump was not used before
case_r : Session
case_r = at (seated 2 0) fresh_window 1 1 2 false (Some (PeerLeft 1 0))

pumps_of_r : lines 3 case_r ≡ (1 ∷ 3 ∷ 0 ∷ 0 ∷ []) ∷ (71 ∷ []) ∷ (1 ∷ 6 ∷ 0 ∷ 0 ∷ []) ∷ []
unfolding pumping said line lines seated at case_r
pumps_of_r = refl

-- seat 1 of three has pressed for ticks 0, 1 and 2, and seat 2 was not seen playing
pressed : Window
pressed = write_frame (write_frame (write_frame fresh_window 1 0 (0x41 ∷ [])) 1 1 (0x42 ∷ [])) 1 2 (0x43 ∷ [])

playing_on : Window → Session
playing_on w = at (seated 3 1) w 1 3 1 true None

whole_pass : lines 7 (playing_on pressed)
    ≡ (0 ∷ 3 ∷ 0 ∷ 0 ∷ []) ∷ (2 ∷ 3 ∷ 0 ∷ 0 ∷ []) ∷ (0 ∷ 4 ∷ 0 ∷ 3 ∷ []) ∷ (2 ∷ 4 ∷ 0 ∷ 3 ∷ []) ∷ (0 ∷ 5 ∷ 0 ∷ 0 ∷ [])
    ∷ (2 ∷ 5 ∷ 0 ∷ 0 ∷ []) ∷ (71 ∷ []) ∷ []
unfolding pumping said line lines seated at pressed playing_on
whole_pass = refl

run_of_three : run_of (playing_on pressed).head pressed ≡ 0x41 ∷ 0x42 ∷ 0x43 ∷ replicate 125 0
unfolding pumping seated at pressed playing_on
run_of_three = refl

-- seat 0's frame for tick 65 empties the cell of tick 1: only the newest goes
one_frame : carried (playing_on pressed).head (write_frame pressed 0 65 (1 ∷ [])) ≡ 1
unfolding pumping seated at pressed playing_on
one_frame = refl

-- its frame for tick 66 empties that of the newest: Inputs is skipped
no_inputs : lines 5 (playing_on (write_frame pressed 0 66 (1 ∷ [])))
    ≡ (0 ∷ 3 ∷ 0 ∷ 0 ∷ []) ∷ (2 ∷ 3 ∷ 0 ∷ 0 ∷ []) ∷ (0 ∷ 5 ∷ 0 ∷ 0 ∷ []) ∷ (2 ∷ 5 ∷ 0 ∷ 0 ∷ []) ∷ (71 ∷ []) ∷ []
unfolding pumping said line lines seated at pressed playing_on
no_inputs = refl

-- the most messages of a pass, at eight seats
pass_of_21 : pass_most ≡ 21
pass_of_21 = refl

-- Laws of the trace form: how long its parts are, and what the search proves its writers by. Assumes nothing.
use Prim.Native.Nat.{ℕ, ◌^◌, ◌≤◌, ◌<◌}
use native.Mathlib.Omega.{arith}
use lib.ListN.{length}
use Rattle.text.proofs.Writing.{join-length}
use Rattle.text.proofs.Decimals.{decimal_20}
use Rattle.trace_text.specs.Trace.{spaced, hello_whole, body_whole, message_whole, sent_line, standing_text}
use Rattle.trace_text.specs.Trace.{counters_text}

-- what the writers of the crate are defined by, as one name: under it the search proves most of them
unfoldable pub parts : Unit {0}
unfolding hello_whole body_whole message_whole sent_line standing_text counters_text
parts = tt

pub spaced_short : (n : ℕ) → n < 2 ^ 64 → length (spaced n) ≤ 21
unfolding spaced
spaced_short n h = rw join-length (omega (arith, decimal_20 n h))

-- `trace_text::state_line` meets its contract. Assumes nothing.
use Rattle.std.proofs.Common.{◌<◌, ◌^◌, arith}
use Rattle.text.proofs.Writing.{put-join, join-length}
use Rattle.lines.proofs.Laws.{flag_one}
use Rattle.trace_text.specs.Trace.{state_line}
use Rattle.trace_text.proofs.Laws.{spaced_short}
use Rattle.trace_text.proofs.state_line.Goals as goal
use Rattle.trace_text.proofs.state_line.Goals.{Start}

-- what the types say of the numbers
sized : (c : Start) → (c.args.pending < 2 ^ 64) × (c.args.next < 2 ^ 64) × (c.args.digest < 2 ^ 64)
sized c = (omega arith, omega arith, omega arith)

pub returns : goal.returns
unfolding state_line
returns c =
    let a = c.args in
    let n = sized (goal.at.returns c).Start in record {
      writes = rw (
        put-join,
        ← c.piece.ensures,
        ← c.counters.ensures.writes,
        ← c.spaced.ensures,
        ← c.spaced-2.ensures,
        ← c.byte.ensures,
        ← c.flag.ensures,
        ← c.byte-2.ensures,
        ← c.flag-2.ensures,
        ← c.spaced-3.ensures,
        ← c.byte-3.ensures,
        ← c.standing.ensures.writes,
      ) c.byte-4.ensures;
      within = rw (join-length, flag_one a.playing, flag_one a.wants) (omega (
        arith,
        c.counters.ensures.within,
        c.standing.ensures.within,
        spaced_short a.pending n.0,
        spaced_short a.next n.1,
        spaced_short a.digest n.2,
      ));
    }

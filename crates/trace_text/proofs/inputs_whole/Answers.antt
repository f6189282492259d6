-- `trace_text::inputs_whole` meets its contract. Assumes nothing.
use Rattle.std.proofs.Common.{◌≡◌, ◌≤◌, ◌*◌, min, length, take, length-take, arith, rules}
use Rattle.std.proofs.lemmas.List.{take_min}
use Rattle.text.proofs.Writing.{put-join, join-length}
use Rattle.text.proofs.Hexes.{hex_bytes_length}
use Rattle.trace_text.specs.Trace.{inputs_whole}
use Rattle.trace_text.proofs.Laws.{spaced_short}
use Rattle.trace_text.proofs.inputs_whole.Goals as goal
use Rattle.trace_text.proofs.inputs_whole.Goals.{Start}

run_long : (c : Start) → length c.args.run ≡ 128
run_long c = search rules

pub returns : goal.returns
unfolding inputs_whole
returns c =
    let b = c.args.b in
    let run = c.args.run in
    let long = run_long (goal.at.returns c).Start in
    let n : c.run_size.result ≡ min (b.count * b.width) (length run) = rw long c.run_size.ensures in
    let head : take c.run_size.result run ≡ take (b.count * b.width) run = rw (n, take_min) in
    let few : length (take (b.count * b.width) run) ≤ 128 = rw length-take (omega (arith, long)) in record {
      writes = rw (
        put-join,
        ← c.spaced.ensures,
        ← rw c.from.ensures at c.spaced-2.ensures,
        ← rw c.from-2.ensures at c.spaced-3.ensures,
        ← c.byte.ensures,
        ← head,
      ) c.hex_bytes.ensures;
      within = rw (join-length, hex_bytes_length) (omega (
        arith,
        spaced_short b.first (search rules),
        spaced_short b.count (search rules),
        spaced_short b.width (search rules),
      ));
    }

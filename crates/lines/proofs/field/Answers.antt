-- `lines::field` meets its contract. Assumes nothing.
use Rattle.std.proofs.Common.{◌≡◌, ◌≤◌, length, take, min, length-take, arith}
use Rattle.std.proofs.lemmas.List.{take_min}
use Rattle.text.proofs.Writing.{put-join, join-length}
use Rattle.text.proofs.Hexes.{hex_bytes_length}
use Rattle.lines.specs.Lines.{field_text}
use Rattle.lines.proofs.field.Goals as goal

pub returns : goal.returns
unfolding field_text
returns c =
    let a = c.args in
    let row = a.row.now in
    let n : c.min.result ≡ min a.width (length row) = rw (c.told-row, ← c.from.ensures) c.min.ensures in
    let head : take c.min.result row ≡ take a.width row = rw (n, take_min) in
    let few : length (take a.width row) ≤ 16 = rw length-take (omega (arith, c.told-row)) in record {
      writes = rw (put-join, ← head, ← c.byte.ensures) c.hex_bytes.ensures;
      within = rw (join-length, hex_bytes_length) (omega arith);
    }

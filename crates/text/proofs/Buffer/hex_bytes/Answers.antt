-- `text::Buffer::hex_bytes` meets its contract: the loop has written the front of the slice. Assumes nothing.
use Rattle.std.proofs.Common.{◌<◌, length, arith}
use Rattle.text.proofs.Writing.{within_append}
use Rattle.text.proofs.Hexes.{hex_bytes_more}
use Rattle.text.proofs.Pages.{put_none}
use Rattle.text.specs.Hex.{hex_bytes}
use Rattle.text.proofs.Buffer.hex_bytes.Goals as goal

pub loop-b-init : goal.loop-b-init
unfolding hex_bytes
loop-b-init g c = put_none c.self.inside.bytes c.self.inside.len c.self.told c.self.view_is

pub loop-b-preserved : goal.loop-b-preserved
loop-b-preserved g c =
    let l = c.loop-b in
    let s = c.args.s.now in
    let h : l.b-index < length s = omega arith in
    rw (hex_bytes_more s l.b-index h, within_append, ← l.invariant) c.hex_byte.ensures

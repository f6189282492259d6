-- `text::Buffer::hex16` meets its contract: the digits of the number's bytes. Assumes nothing.
use Rattle.std.proofs.Common.{ap, ◌∙◌}
use Rattle.text.specs.Text.{put_within}
use Rattle.text.specs.Hex.{hex_bytes}
use Rattle.text.proofs.Hexes.{hex16_bytes}
use Rattle.text.proofs.Buffer.hex16.Goals as goal

pub returns : goal.returns
returns g c =
    c.hex_bytes.ensures
    ∙ ap (put_within g.row.N c.args.self.now) (ap hex_bytes c.to_be_bytes.ensures ∙ hex16_bytes c.args.n)

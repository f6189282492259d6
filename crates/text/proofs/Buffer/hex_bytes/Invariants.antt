use Rattle.std.proofs.Common.{◌≡◌, take}
use Rattle.text.specs.Text.{put_within}
use Rattle.text.specs.Hex.{hex_bytes}
use Rattle.text.proofs.Buffer.hex_bytes.Given as goal

abbrev pub invariant-loop-b : goal.invariant-loop-b
invariant-loop-b g l = l.self ≡ put_within g.row.N l.initial.self (hex_bytes (take l.b-index l.s))

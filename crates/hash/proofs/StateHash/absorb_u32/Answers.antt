-- `hash::StateHash::absorb_u32` meets its contract: the library's bytes are those of the definition. Assumes nothing.
use Rattle.std.proofs.Common.{ap, ◌∙◌}
use Rattle.hash.specs.Fnv.{fnv}
use Rattle.hash.proofs.Laws.{le_bytes_4}
use Rattle.hash.proofs.StateHash.absorb_u32.Goals as goal

pub returns : goal.returns
returns c =
    c.absorb_bytes.ensures ∙ ap (fnv c.args.self.value) (c.to_le_bytes.ensures ∙ le_bytes_4 c.args.value)

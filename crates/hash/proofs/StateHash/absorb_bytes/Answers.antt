-- `hash::StateHash::absorb_bytes` meets its contract. The invariant: absorbing what is left gives what absorbing all of
-- it gives at the start. Assumes nothing.
use Rattle.std.proofs.Common.{sym, ◌∙◌, rules}
use Rattle.hash.proofs.Laws.{fnv_byte, fnv_end}
use Rattle.hash.proofs.StateHash.absorb_bytes.Goals as goal

pub loop-byte-preserved : goal.loop-byte-preserved
loop-byte-preserved c =
    let at = c.loop-byte in
    rw c.absorb_byte-h.ensures (fnv_byte at.h.value _ at.byte-index (search rules) ∙ at.invariant)

pub returns : goal.returns
returns c = sym (fnv_end c.loop-byte.h.value _ c.loop-byte.byte-index (search rules)) ∙ c.loop-byte.invariant

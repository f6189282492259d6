-- `params::SessionParams::agreement` meets its contract: absorbed one after the other, the numbers are their bytes
-- joined. Assumes nothing.
use Rattle.hash.proofs.Laws.{fnv-append}
use Rattle.params.specs.Params.{agreement_of, agreement_bytes}
use Rattle.params.proofs.SessionParams.agreement.Goals as goal

pub returns : goal.returns
unfolding agreement_of agreement_bytes
returns c =
    let narrow = c.before.before.before in
    let wide = narrow.before.before.before.before.before.before in
    simp fnv-append
    (rw (
      c.finish.ensures,
      c.absorb_u32-5.ensures,
      narrow.absorb_u32-4.ensures,
      narrow.absorb_u32-3.ensures,
      narrow.absorb_u32-2.ensures,
      wide.absorb_u64-3.ensures,
      wide.absorb_u64-2.ensures,
      wide.absorb_u64.ensures,
      wide.absorb_u32.ensures,
      wide.new.ensures,
      c.from.ensures,
      c.from-2.ensures,
      c.from-3.ensures,
      c.from-4.ensures,
    ))

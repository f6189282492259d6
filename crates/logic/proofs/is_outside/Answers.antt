-- `logic::is_outside` meets its contract. Assumes nothing.
use Rattle.std.proofs.Common.{rules}
use Rattle.logic.specs.Range.{outside}
use Rattle.logic.proofs.is_outside.Goals as goal

pub returns : goal.returns
unfolding outside
returns c = rw (c.contains.ensures.value, c.new.ensures.start, c.new.ensures.end, c.new.ensures.exhausted) (search rules)

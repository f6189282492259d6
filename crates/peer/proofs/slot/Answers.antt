-- `peer::slot` meets its contract: a mask of six bits is a remainder by 64.
-- Assumes nothing.
use lib.Bits.{and_mask}
use Rattle.peer.proofs.slot.Goals as goal

pub returns : goal.returns
returns c = and_mask c.args.tick 6

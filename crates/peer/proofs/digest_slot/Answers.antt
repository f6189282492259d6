-- `peer::digest_slot` meets its contract: a mask of four bits is a remainder by 16.
-- Assumes nothing.
use lib.Bits.{and_mask}
use Rattle.peer.proofs.digest_slot.Goals as goal

pub returns : goal.returns
returns c = and_mask c.args.tick 4

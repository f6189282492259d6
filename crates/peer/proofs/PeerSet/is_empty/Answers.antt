-- `peer::PeerSet::is_empty` meets its contract, by the law at its number of seats.
-- Assumes nothing.
use borrow.Author.Rules.{rules}
use Rattle.peer.specs.Seats.{seats}
use Rattle.peer.proofs.Laws.{empty_is}
use Rattle.peer.proofs.PeerSet.is_empty.Goals as goal

pub returns : goal.returns
returns c = empty_is seats _ (search rules)

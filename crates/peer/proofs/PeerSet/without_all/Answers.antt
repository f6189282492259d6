-- `peer::PeerSet::without_all` meets its contract, by the law at its number of seats.
-- Assumes nothing.
use borrow.Author.Rules.{rules}
use Rattle.peer.specs.Seats.{seats}
use Rattle.peer.proofs.Laws.{less_is}
use Rattle.peer.proofs.PeerSet.without_all.Goals as goal

pub returns : goal.returns
returns c = less_is seats _ _ (search rules) (search rules)

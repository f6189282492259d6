-- `peer::PeerSet::count` meets its contract, by the law at its number of seats.
-- Assumes nothing.
use borrow.Author.Rules.{rules}
use Rattle.peer.specs.Seats.{seats}
use Rattle.peer.proofs.Laws.{count_is}
use Rattle.peer.proofs.PeerSet.count.Goals as goal

pub returns : goal.returns
returns c = count_is seats _ (search rules)

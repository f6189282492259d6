-- `peer::PeerSet::subset` meets its contract, by the law at its number of seats.
-- Assumes nothing.
use borrow.Author.Rules.{rules}
use Rattle.peer.specs.Seats.{seats}
use Rattle.peer.proofs.Laws.{subset_is}
use Rattle.peer.proofs.PeerSet.subset.Goals as goal

pub returns : goal.returns
returns c = subset_is seats _ _ (search rules) (search rules)

-- `peer::PeerSet::without` meets its contract, by the law at its number of seats.
-- Assumes nothing.
use borrow.Author.Rules.{rules}
use Rattle.peer.specs.Seats.{seats}
use Rattle.peer.proofs.Laws.{removing_in, removing_out}
use Rattle.peer.proofs.PeerSet.without.Goals as goal

pub returns-then-seat-lt-SEATS : goal.returns-then-seat-lt-SEATS
returns-then-seat-lt-SEATS c = removing_in seats _ _ (search rules) (search rules)

pub returns-else-seat-lt-SEATS : goal.returns-else-seat-lt-SEATS
returns-else-seat-lt-SEATS c = removing_out seats _ _ (search rules) (search rules)

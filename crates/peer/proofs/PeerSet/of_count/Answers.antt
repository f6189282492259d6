-- `peer::PeerSet::of_count` meets its contract, by the law at its number of seats.
-- Assumes nothing.
use borrow.Author.Rules.{rules}
use Rattle.peer.specs.Seats.{seats}
use Rattle.peer.proofs.Laws.{one_shl_pos, first_in, first_all}
use Rattle.peer.proofs.PeerSet.of_count.Goals as goal

pub overflow_sub-below : goal.overflow_sub-below
overflow_sub-below c = one_shl_pos seats _ (search rules)

pub returns-then-count-lt-SEATS : goal.returns-then-count-lt-SEATS
returns-then-count-lt-SEATS c = first_in seats _ (search rules)

pub returns-else-count-lt-SEATS : goal.returns-else-count-lt-SEATS
returns-else-count-lt-SEATS c = first_all seats _ (search rules)

-- `peer::PeerSet::contains` meets its contract, by the law at its number of seats.
-- Assumes nothing.
use borrow.Author.Rules.{rules}
use mathlib.Core.Path.{sym}
use Rattle.peer.specs.Seats.{seats}
use Rattle.peer.proofs.Laws.{contains_in, has_none}
use Rattle.peer.proofs.PeerSet.contains.Goals as goal

pub returns-then-seat-lt-SEATS : goal.returns-then-seat-lt-SEATS
returns-then-seat-lt-SEATS c = contains_in seats _ _ (search rules)

pub returns-else-seat-lt-SEATS : goal.returns-else-seat-lt-SEATS
returns-else-seat-lt-SEATS c = sym (has_none seats _ _ (search rules) (search rules))

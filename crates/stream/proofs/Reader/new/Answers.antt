use Rattle.stream.proofs.Laws.{none_begun}
use Rattle.stream.proofs.Reader.new.Goals as goal

pub invariant_of-result : goal.invariant_of-result
invariant_of-result c = record { part = rw c.new.ensures none_begun }

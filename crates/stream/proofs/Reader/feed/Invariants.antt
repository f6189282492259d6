use Rattle.std.proofs.Common.{◌-◌, [], length}
use Rattle.stream.specs.Stream.{reading_of}
use Rattle.stream.proofs.Laws.{FedTo}
use Rattle.stream.proofs.Reader.feed.Given as goal

abbrev pub invariant-loop-used : goal.invariant-loop-used
invariant-loop-used l =
    FedTo l.form (reading_of l.initial.s l.initial.self.begun []) l.piece l.s l.self.begun l.used l.out

abbrev pub decreases-loop-used : goal.decreases-loop-used
decreases-loop-used l = length l.piece - l.used

-- `script::record_size` meets its contract. Assumes nothing.
use borrow.Author.Tests.{lt-ltb}
use Rattle.std.proofs.Common.{rules}
use Rattle.logic.specs.Test.{when◌then◌else◌}
use Rattle.script.specs.Records.{record_size}
use Rattle.script.proofs.record_size.Goals as goal

pub returns-then-have-lt-HEADER-clause-value : goal.returns-then-have-lt-HEADER-clause-value
unfolding record_size when◌then◌else◌
returns-then-have-lt-HEADER-clause-value c = rw (lt-ltb _ _ c.if-have-lt-HEADER.true)

pub returns-then-have-size-clause-value : goal.returns-then-have-size-clause-value
unfolding record_size when◌then◌else◌
returns-then-have-size-clause-value c = search rules

pub returns-clause-value : goal.returns-clause-value
unfolding record_size when◌then◌else◌
returns-clause-value c = search rules

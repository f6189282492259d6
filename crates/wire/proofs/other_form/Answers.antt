-- `wire::other_form` meets its contract. Assumes nothing.
use Rattle.std.proofs.Common.{rules}
use Rattle.logic.specs.Test.{when◌then◌else◌}
use Rattle.wire.specs.Wire.{other_form}
use Rattle.wire.proofs.other_form.Goals as goal

pub returns-then-is_outside : goal.returns-then-is_outside
unfolding other_form when◌then◌else◌
returns-then-is_outside c = search rules

pub returns : goal.returns
unfolding other_form when◌then◌else◌
returns c = search rules

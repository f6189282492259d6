-- `params::SessionParams::validate` meets its contract: each return goes by the tests on its way. Assumes nothing.
use Rattle.std.proofs.Common.{rules}
use Rattle.logic.specs.Test.{when◌then◌else◌}
use Rattle.params.specs.Params.{validity}
use Rattle.params.proofs.SessionParams.validate.Goals as goal

pub returns-then-is_outside : goal.returns-then-is_outside
unfolding validity when◌then◌else◌
returns-then-is_outside c = search rules

pub returns-then-self : goal.returns-then-self
unfolding validity when◌then◌else◌
returns-then-self c = search rules

pub returns-then-is_outside-2 : goal.returns-then-is_outside-2
unfolding validity when◌then◌else◌
returns-then-is_outside-2 c = search rules

pub returns-then-self-gt-MAX_DELAY : goal.returns-then-self-gt-MAX_DELAY
unfolding validity when◌then◌else◌
returns-then-self-gt-MAX_DELAY c = search rules

pub returns-then-self-eq0 : goal.returns-then-self-eq0
unfolding validity when◌then◌else◌
returns-then-self-eq0 c = search rules

pub returns-then-self-eq0-2 : goal.returns-then-self-eq0-2
unfolding validity when◌then◌else◌
returns-then-self-eq0-2 c = search rules

pub returns : goal.returns
unfolding validity when◌then◌else◌
returns c = search rules

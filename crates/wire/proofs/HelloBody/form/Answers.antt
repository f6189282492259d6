-- `wire::HelloBody::form` meets its contract. Assumes nothing.
use Rattle.std.proofs.Common.{rules}
use Rattle.logic.specs.Test.{when◌then◌else◌}
use Rattle.wire.specs.Wire.{width_form, hello_form}
use Rattle.wire.proofs.HelloBody.form.Goals as goal

pub returns-then-is_outside : goal.returns-then-is_outside
unfolding width_form hello_form when◌then◌else◌
returns-then-is_outside c = search rules

pub returns-in_err-width_form : goal.returns-in_err-width_form
unfolding width_form hello_form when◌then◌else◌
returns-in_err-width_form c = search rules

pub returns-then-self-gt-MAX_DELAY : goal.returns-then-self-gt-MAX_DELAY
unfolding width_form hello_form when◌then◌else◌
returns-then-self-gt-MAX_DELAY c = search rules

pub returns-then-self-eq0 : goal.returns-then-self-eq0
unfolding width_form hello_form when◌then◌else◌
returns-then-self-eq0 c = search rules

pub returns : goal.returns
unfolding width_form hello_form when◌then◌else◌
returns c = search rules

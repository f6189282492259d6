-- `wire::Message::form` meets its contract. Assumes nothing.
use Rattle.std.proofs.Common.{rules}
use Rattle.logic.specs.Test.{when◌then◌else◌}
use Rattle.wire.specs.Wire.{body_form, form_of}
use Rattle.wire.proofs.Message.form.Goals as goal

pub returns-then-self-ge-SEATS : goal.returns-then-self-ge-SEATS
unfolding body_form form_of when◌then◌else◌
returns-then-self-ge-SEATS c = search rules

pub returns-then-self-eq0 : goal.returns-then-self-eq0
unfolding body_form form_of when◌then◌else◌
returns-then-self-eq0 c = search rules

pub returns-in-Hello : goal.returns-in-Hello
unfolding body_form form_of when◌then◌else◌
returns-in-Hello c = search rules

pub returns-in-Inputs : goal.returns-in-Inputs
unfolding body_form form_of when◌then◌else◌
returns-in-Inputs c = search rules

pub returns-in-Digest : goal.returns-in-Digest
unfolding body_form form_of when◌then◌else◌
returns-in-Digest c = search rules

pub returns-in-Other : goal.returns-in-Other
unfolding body_form form_of when◌then◌else◌
returns-in-Other c = search rules

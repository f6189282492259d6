-- `deliver::deliver_in` meets its contract: each return is a case of the definition. Assumes nothing.
use Rattle.std.proofs.Common.{rules}
use Rattle.logic.specs.Test.{when◌then◌else◌}
use Rattle.deliver.specs.Deliver.{deliver, deliver_by, deliver_form}
use Rattle.deliver.proofs.deliver_in.Goals as goal

pub returns-then-bad_state : goal.returns-then-bad_state
unfolding deliver when◌then◌else◌
returns-then-bad_state c = rw (← c.bad_state.ensures, c.if-bad_state.true)

pub returns-in-Some : goal.returns-in-Some
unfolding deliver deliver_by when◌then◌else◌
returns-in-Some c = search rules

pub returns-in-Err : goal.returns-in-Err
unfolding deliver deliver_by deliver_form when◌then◌else◌
returns-in-Err c =
    rw (
      ← c.bad_state.ensures,
      c.if-bad_state.false,
      c.in_default.is,
      ← c.form.ensures,
      c.in-Err.is,
      ← c.refuse.ensures,
    )

pub returns : goal.returns
unfolding deliver deliver_by deliver_form when◌then◌else◌
returns c =
    rw (
      ← c.bad_state.ensures,
      c.if-bad_state.false,
      c.in_default.is,
      ← c.form.ensures,
      c.in_default-form.is,
    ) c.from_header.ensures

-- `deliver::answer_note` meets its contract. Assumes nothing.
use Rattle.logic.specs.Test.{when◌then◌else◌}
use Rattle.deliver.specs.Deliver.{noted, note_answer}
use Rattle.deliver.proofs.answer_note.Goals as goal

pub returns-in_default : goal.returns-in_default
unfolding noted
returns-in_default c = rw (c.in_default.is)

pub returns-then-wrote : goal.returns-then-wrote
unfolding noted note_answer when◌then◌else◌
returns-then-wrote c = rw (c.in-Some.is, ← c.from.ensures, ← c.refuse-refused.ensures, c.if-wrote.true)

pub returns-else-wrote : goal.returns-else-wrote
unfolding noted note_answer when◌then◌else◌
returns-else-wrote c = rw (c.in-Some.is, ← c.from.ensures, ← c.refuse-refused.ensures, c.if-wrote.false)

-- `deliver::absorb_inputs` meets its contract. Assumes nothing.
use borrow.Author.Tests.{eq-eqb, ne_eqb}
use Rattle.logic.specs.Test.{when◌then◌else◌}
use Rattle.stats.specs.Stats.{repeated_of}
use Rattle.deliver.specs.Deliver.{absorb, frames_taken, frames_noted}
use Rattle.deliver.proofs.absorb_inputs.Goals as goal

pub returns-then-body-agreed : goal.returns-then-body-agreed
unfolding absorb when◌then◌else◌
returns-then-body-agreed c = rw (ne_eqb _ _ c.if-body-agreed.true, ← c.refuse.ensures)

pub returns : goal.returns
unfolding absorb frames_taken frames_noted repeated_of when◌then◌else◌
returns c = rw (eq-eqb _ _ c.if-body-agreed.false, ← c.absorb_inputs-taken.ensures, ← c.answer_note.ensures)

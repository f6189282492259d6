-- `window::stand_for` meets its contract: each return is a case of the definition. Assumes nothing.
use Rattle.logic.specs.Test.{when◌then◌else◌}
use Rattle.window.specs.Window.{standing}
use Rattle.window.proofs.Parts.{part_to}
use Rattle.window.proofs.stand_for.Goals as goal

pub returns-then-held : goal.returns-then-held
unfolding standing when◌then◌else◌
returns-then-held c = rw c.if-held.true (part_to _ _ _ _ _ c.min-from.ensures c.min-to.ensures)

pub returns : goal.returns
unfolding standing when◌then◌else◌
returns c = rw c.if-held.false

-- `window::Window::held_by` meets its contract. Assumes nothing.
use borrow.Author.Tests.{eq-eqb, ne_eqb}
use Rattle.logic.specs.Test.{when◌then◌else◌}
use Rattle.window.specs.Window.{held_by}
use Rattle.window.proofs.Window.held_by.Goals as goal

pub returns-then-self-cell : goal.returns-then-self-cell
unfolding held_by when◌then◌else◌
returns-then-self-cell c = rw (← c.slot-cell.ensures, eq-eqb _ _ c.if-self-cell.true)

pub returns : goal.returns
unfolding held_by when◌then◌else◌
returns c = rw (← c.slot-cell.ensures, ne_eqb _ _ c.if-self-cell.false)

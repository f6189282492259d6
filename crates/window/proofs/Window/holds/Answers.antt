-- `window::Window::holds` meets its contract. Assumes nothing.
use Rattle.window.specs.Window.{is_held}
use Rattle.window.proofs.Window.holds.Goals as goal

pub returns : goal.returns
unfolding is_held
returns c = rw (← c.held_by.ensures) c.contains.ensures

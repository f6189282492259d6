-- `window::Window::new` meets its contract. The definition stays shut elsewhere, so that no goal writes out the
-- ring's zeros. Assumes nothing.
use mathlib.Core.Path.{refl}
use Rattle.window.specs.Window.{fresh_window}
use Rattle.window.proofs.Window.new.Goals as goal

pub returns : goal.returns
unfolding fresh_window
returns c = refl

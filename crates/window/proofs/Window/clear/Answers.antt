-- `window::Window::clear` meets its contract: each of the three lists is written anew. Assumes nothing.
use mathlib.Core.Path.{refl}
use Rattle.window.specs.Window.{fresh_window}
use Rattle.window.proofs.Window.clear.Goals as goal

pub returns : goal.returns
unfolding fresh_window
returns c = refl

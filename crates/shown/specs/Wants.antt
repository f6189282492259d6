-- Document 01, "The window": `wants_local`.
-- Assumes nothing.
use Rattle.std.specs.Prelude.{◌-◌, Bool, false, ◌&&◌, ltb, leb}
use Rattle.logic.specs.Test.{when◌then◌else◌}
use Rattle.logic.specs.Saturating.{sum}
use Rattle.peer.specs.Cells.{window}
use Rattle.params.specs.Params.{bad_state}
use Rattle.session.specs.Session.{is_over}
use Rattle.session.specs.declared.Head.{Head}

-- no after an outcome or for a bad record; else yes exactly when next local tick is at most pending plus delay and less
-- than 64 above pending (sums and differences saturate)
unfoldable pub wants_local : Head → Bool
wants_local h =
    let next = h.play.next_local in
    let pending = h.play.pending in
    when is_over h.outcome then false
    else when bad_state h.params then false
    else leb next (sum pending h.params.delay) && ltb (next - pending) window

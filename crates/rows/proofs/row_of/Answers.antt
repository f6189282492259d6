-- `rows::row_of` meets its contract. Assumes nothing.
use mathlib.Core.Path.{◌≡◌}
use native.Mathlib.Nat.{add-sub_cancel_left}
use native.Mathlib.Omega.{arith}
use lib.ListN.{length, drop, length-drop}
use borrow.Author.Rules.{rules}
use Rattle.window.specs.Window.{frame_of, ring_bytes}
use Rattle.rows.proofs.Loops.{padded_front}
use Rattle.rows.proofs.row_of.Goals as goal

pub returns : goal.returns
unfolding frame_of
returns c =
    let ring = c.args.window.now.ring in
    let at = c.frame_start-at.result in
    let long : length ring ≡ ring_bytes = search rules in
    rw (← c.frame_start-at.ensures)
    (padded_front (drop at ring) _ c.args.width c.min-n.result
    (rw (length-drop, long) (omega (arith, c.frame_start-at.ensures, c.requires)))
    (rw c.from.ensures at c.min-n.ensures) (rw add-sub_cancel_left at c.copy_from_slice.ensures.after))

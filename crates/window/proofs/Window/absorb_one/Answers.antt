-- `window::Window::absorb_one` meets its contract: each return is one of the five rules for a frame. Assumes nothing.
use mathlib.Core.Path.{◌≡◌}
use borrow.Author.Rules.{rules}
use borrow.Author.Tests.{lt-ltb, le-ltb, le-leb}
use Rattle.logic.specs.Test.{when◌then◌else◌}
use Rattle.window.specs.declared.Note.TheVariants.{Contradiction}
use Rattle.window.specs.Absorb.{absorbed, absorb_one, repeats, stores, noted}
use Rattle.window.proofs.Compare.{by_comparison}
use Rattle.window.proofs.Window.absorb_one.Goals as goal
use Rattle.window.proofs.Window.absorb_one.Goals.{After-ne}

-- where the comparison is made, the definition stands at its last three rules
decided : (c : After-ne) →
    let a = c.args in
    let s = absorbed a.self.now a.taken.now in
    absorb_one s a.pending a.seat a.tick a.bytes.now
    ≡ when c.ne.result then noted s (Contradiction a.seat a.tick)
    else when c.holds-held.result then repeats s else stores s a.seat a.tick a.bytes.now
decided c =
    let a = c.args in
    by_comparison (absorbed a.self.now a.taken.now) a.pending a.seat a.tick a.bytes.now c.holds-held.result
    c.ne.result c.frame_start-at.result c.stand_for-stands.result.now (search rules) (search rules)
    c.holds-held.ensures c.frame_start-at.ensures c.stand_for-stands.ensures c.ne.ensures

pub returns-then-tick-pending : goal.returns-then-tick-pending
unfolding absorb_one when◌then◌else◌
returns-then-tick-pending c = rw (lt-ltb _ _ c.if-tick-pending.true)

pub returns-then-tick-pending-ge-WINDOW : goal.returns-then-tick-pending-ge-WINDOW
unfolding absorb_one when◌then◌else◌
returns-then-tick-pending-ge-WINDOW c =
    rw (le-ltb _ _ c.if-tick-pending.false, le-leb _ _ c.if-tick-pending-ge-WINDOW.true)

pub returns-then-ne : goal.returns-then-ne
unfolding when◌then◌else◌
returns-then-ne c = rw (decided (goal.at.returns-then-ne c).After-ne, c.if-ne.true)

pub returns-then-held : goal.returns-then-held
unfolding when◌then◌else◌
returns-then-held c =
    rw (decided (goal.at.returns-then-held c).After-ne, c.if-ne.false, c.if-held.true, c.raise-taken.ensures)

pub returns-else-held : goal.returns-else-held
unfolding when◌then◌else◌
returns-else-held c =
    rw (
      decided (goal.at.returns-else-held c).After-ne,
      c.if-ne.false,
      c.if-held.false,
      c.write_frame.ensures,
    )

-- `fingerprint::Fingerprints::all_agree` meets its contract: the loop's invariant says that no remote below `seat`
-- denies the print. Assumes nothing.
use mathlib.Core.Path.{◌≡◌, sym, ◌∙◌}
use mathlib.Core.Bool.{true, false}
use native.Mathlib.Omega.{arith}
use Rattle.peer.specs.Seats.{seats, has}
use Rattle.peer.proofs.Loops.{every_all, every-not}
use Rattle.fingerprint.specs.Cells.{remote_for}
use Rattle.fingerprint.specs.Judging.{agrees, all_agree}
use Rattle.fingerprint.proofs.Fingerprints.all_agree.Goals as goal

pub returns-then-not-agrees : goal.returns-then-not-agrees
unfolding all_agree
returns-then-not-agrees c =
    let a = c.args in
    let asked : has a.remotes.0 c.loop-seat.seat ≡ true =
    sym c.contains.ensures ∙ c.if-contains.true in
    let denied : agrees a.mine.state (remote_for a.self.now c.loop-seat.seat a.mine.tick) ≡ false =
    rw (← c.remote_for.ensures) (sym c.agrees.ensures ∙ c.if-not-agrees.true) in
    sym (every-not seats _ c.loop-seat.seat (omega arith) (rw (asked, denied)))

pub returns : goal.returns
unfolding all_agree
returns c = sym (every_all seats _ (λ k l. c.loop-seat.invariant.1 k (omega arith)))

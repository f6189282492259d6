-- `desync::DesyncReport::peers` meets its contract: the seats so far are listed. Assumes nothing.
use mathlib.Core.Path.{◌≡◌}
use Prim.Native.Nat.{min}
use native.Mathlib.Numerals.{add-one}
use native.Mathlib.Omega.{arith}
use Rattle.peer.specs.Seats.{seats}
use Rattle.text.proofs.Writing.{put-join, put_on}
use Rattle.desync.specs.Json.{peer_list}
use Rattle.desync.proofs.DesyncReport.peers.Goals as goal

pub loop-seat-init : goal.loop-seat-init
unfolding peer_list
loop-seat-init c = put_on _ _ c.piece.ensures

pub loop-seat-preserved : goal.loop-seat-preserved
unfolding peer_list
loop-seat-preserved c = rw (add-one, put-join, ← c.loop-seat.invariant) c.peer.ensures

pub returns : goal.returns
returns c =
    let all : c.loop-seat.seat ≡ min c.args.self.now.peer_count seats = omega arith in
    rw c.piece.ensures at (rw all at c.loop-seat.invariant)

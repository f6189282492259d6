use mathlib.Core.Path.{◌≡◌}
use Rattle.text.specs.Text.{put}
use Rattle.desync.specs.Json.{peer_list}
use Rattle.desync.proofs.DesyncReport.peers.Given as goal

abbrev pub invariant-loop-seat : goal.invariant-loop-seat
invariant-loop-seat l = l.out ≡ put l.initial.out (peer_list l.self l.seat)

-- `desync::DesyncReport::peer` meets its contract. Assumes nothing.
use Rattle.text.proofs.Writing.{put-join}
use Rattle.desync.specs.Json.{peer_text}
use Rattle.desync.proofs.DesyncReport.peer.Goals as goal

pub returns : goal.returns
unfolding peer_text
returns c = rw (c.piece.ensures, c.seat_digest-2.ensures, c.seat_digest.ensures, c.number.ensures, c.from.ensures, c.comma.ensures, put-join)

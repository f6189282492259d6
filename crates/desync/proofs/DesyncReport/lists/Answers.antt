-- `desync::DesyncReport::lists` meets its contract. Assumes nothing.
use Rattle.text.proofs.Writing.{put-join}
use Rattle.desync.specs.Json.{lists_text}
use Rattle.desync.proofs.DesyncReport.lists.Goals as goal

pub returns : goal.returns
unfolding lists_text
returns c = rw (c.peers.ensures, c.seat_list.ensures, c.dissenters.ensures, put-join)

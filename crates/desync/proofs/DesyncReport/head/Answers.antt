-- `desync::DesyncReport::head` meets its contract. Assumes nothing.
use Rattle.text.proofs.Writing.{put-join}
use Rattle.desync.specs.Json.{head_text}
use Rattle.desync.proofs.DesyncReport.head.Goals as goal

pub returns : goal.returns
unfolding head_text
returns c = rw (c.number-3.ensures, c.from-2.ensures, c.number-2.ensures, c.from.ensures, c.number.ensures, put-join)

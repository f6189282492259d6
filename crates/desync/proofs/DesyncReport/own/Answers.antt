-- `desync::DesyncReport::own` meets its contract. Assumes nothing.
use Rattle.text.proofs.Writing.{put-join}
use Rattle.desync.specs.Json.{own_text}
use Rattle.desync.proofs.DesyncReport.own.Goals as goal

pub returns-clause-writes : goal.returns-clause-writes
unfolding own_text
returns-clause-writes c = rw (c.last_tick.ensures.writes, c.digest-2.ensures, c.digest.ensures, put-join)

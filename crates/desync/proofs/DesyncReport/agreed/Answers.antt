-- `desync::DesyncReport::agreed` meets its contract. Assumes nothing.
use Rattle.text.proofs.Writing.{put-join}
use Rattle.desync.specs.Json.{agreed_text}
use Rattle.desync.proofs.DesyncReport.agreed.Goals as goal

pub returns : goal.returns
unfolding agreed_text
returns c = rw (c.number.ensures, c.digest-3.ensures, c.digest-2.ensures, c.digest.ensures, put-join)

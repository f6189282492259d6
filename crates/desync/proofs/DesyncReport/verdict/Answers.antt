-- `desync::DesyncReport::verdict` meets its contract. Assumes nothing.
use Rattle.text.proofs.Writing.{put-join}
use Rattle.desync.specs.Json.{verdict_text}
use Rattle.desync.proofs.DesyncReport.verdict.Goals as goal

pub returns : goal.returns
unfolding verdict_text
returns c = rw (c.flag-2.ensures, c.witnessed.ensures, c.flag.ensures, c.inputs_agree.ensures, put-join)

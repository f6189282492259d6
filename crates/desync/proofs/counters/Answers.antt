-- `desync::counters` meets its contract. Assumes nothing.
use Rattle.text.proofs.Writing.{put-join}
use Rattle.desync.specs.Json.{stats_text}
use Rattle.desync.proofs.counters.Goals as goal

pub returns : goal.returns
unfolding stats_text
returns c = rw (c.piece.ensures, c.number-6.ensures, c.number-5.ensures, c.number-4.ensures, c.number-3.ensures, c.number-2.ensures, c.number.ensures, put-join)

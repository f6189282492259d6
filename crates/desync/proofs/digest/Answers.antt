-- `desync::digest` meets its contract. Assumes nothing.
use Rattle.text.proofs.Writing.{put-join}
use Rattle.desync.specs.Json.{digest_text}
use Rattle.desync.proofs.digest.Goals as goal

pub returns : goal.returns
unfolding digest_text
returns c = rw (c.piece-3.ensures, c.hex16.ensures, c.piece-2.ensures, c.piece.ensures, put-join)

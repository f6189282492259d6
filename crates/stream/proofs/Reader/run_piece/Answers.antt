-- `stream::Reader::run_piece` meets its contract: at each turn the piece is read as far as it is used. Assumes nothing.
use Rattle.script.proofs.Laws.{from_on}
use Rattle.stream.proofs.Laws.{read_none, read_more}
use Rattle.stream.proofs.Reader.run_piece.Goals as goal

pub loop-used-init : goal.loop-used-init
loop-used-init c = read_none c.args.form c.args.piece.now _ _

pub loop-used-preserved : goal.loop-used-preserved
loop-used-preserved c =
    read_more c.args.form c.args.piece.now _ _ _ _ _ _ _ _ c.loop-used.invariant
    (rw (from_on _ _) at c.feed-used.ensures)

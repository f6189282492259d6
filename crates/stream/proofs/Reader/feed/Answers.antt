-- `stream::Reader::feed` meets its contract: at each turn the piece is fed as far as it is used. Assumes nothing.
use Rattle.std.proofs.Common.{arith}
use Rattle.script.proofs.Laws.{from_on}
use Rattle.stream.proofs.Laws.{fed_none, fed_more}
use Rattle.stream.proofs.Reader.feed.Goals as goal

pub loop-used-init : goal.loop-used-init
loop-used-init c = rw c.clear.ensures (fed_none c.args.form c.args.piece.now _ _)

pub loop-used-preserved : goal.loop-used-preserved
loop-used-preserved c =
    let one = c.feed_one-used.ensures in
    let len = c.len.ensures in
    fed_more c.args.form c.args.piece.now _ _ _ _ _ _ _ _ _ _ _ c.loop-used.invariant (rw (from_on _ _) at one.feeds)
    one.within_limit c.loop-used-test.true (omega (arith, len.length, len.within, c.if-len-ge-LIMIT.true))
    (rw c.as_bytes.ensures at c.piece.ensures)

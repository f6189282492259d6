-- `trace_text::send_lines` meets its contract. Assumes nothing.
use Rattle.std.proofs.Common.{append-nil, length-append, ◌∙◌, arith}
use Rattle.logic.specs.Test.{when◌then◌else◌}
use Rattle.text.proofs.Writing.{put_room}
use Rattle.lines.specs.Lines.{send_line}
use Rattle.trace_text.specs.Trace.{sent_line, send_lines}
use Rattle.trace_text.proofs.send_lines.Goals as goal

pub returns-then-traced : goal.returns-then-traced
unfolding send_lines when◌then◌else◌
returns-then-traced c =
    let line = c.send_line.ensures in
    let sent = c.sent_line.ensures in
    let room = put_room (send_line c.args.answer) (sent_line c.args.answer c.args.run) (omega (arith, line.within, sent.within)) in
    rw c.if-traced.true (record {
      said = rw line.says.said at sent.writes ∙ room;
      fits = rw length-append (omega (arith, line.within, sent.within));
    })

pub returns-else-traced : goal.returns-else-traced
unfolding send_lines when◌then◌else◌
returns-else-traced c = rw (c.if-traced.false, append-nil) c.send_line.ensures.says

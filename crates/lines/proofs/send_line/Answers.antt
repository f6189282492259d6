-- `lines::send_line` meets its contract. Assumes nothing.
use Rattle.std.proofs.Common.{◌≡◌, ◌≤◌, length, arith}
use Rattle.text.proofs.Writing.{put-join, join-length}
use Rattle.text.proofs.Decimals.{decimal_20}
use Rattle.text.specs.Text.{put}
use Rattle.lines.specs.Lines.{send_line}
use Rattle.lines.proofs.Laws.{says, numbered-length}
use Rattle.lines.proofs.send_line.Goals as goal

pub returns-in-Send : goal.returns-in-Send
unfolding send_line
returns-in-Send c =
    let at = c.in-Send in
    let few : length (send_line c.args.answer) ≤ 100 =
    rw (at.is, join-length) (omega (arith, c.body.ensures.within, decimal_20 at.peer (omega arith))) in
    let seat = rw c.from.ensures at c.worded.ensures in
    let wrote : c.byte-in-Send.new.self ≡ put c.clear.new.self (send_line c.args.answer) =
    rw (at.is, put-join, ← seat, ← c.byte.ensures, ← c.body.ensures.writes) c.byte-in-Send.ensures in
    record { says = says c.clear.ensures wrote (omega (arith, few)); within = few }

pub returns-in-Nothing : goal.returns-in-Nothing
unfolding send_line
returns-in-Nothing c =
    rw c.in-Nothing.is
    (record { says = c.numbered.ensures; within = numbered-length _ _ (omega arith) (omega arith) })

pub returns-in-BadState : goal.returns-in-BadState
unfolding send_line
returns-in-BadState c =
    rw c.in-BadState.is
    (record { says = c.numbered-in-BadState.ensures; within = numbered-length _ _ (omega arith) (omega arith) })

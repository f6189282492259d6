-- `lines::submit_line` meets its contract. Assumes nothing.
use Rattle.std.proofs.Common.{◌≡◌, ◌≤◌, ℕ, [], length, Ok, Err, refl, arith}
use Rattle.text.proofs.Writing.{put-join, join-length, put_on}
use Rattle.text.proofs.Decimals.{decimal_20}
use Rattle.text.specs.Text.{put}
use Rattle.session.specs.Numbers.{Submit}
use Rattle.lines.specs.Lines.{submit_line, accepted_text}
use Rattle.lines.proofs.Laws.{says}
use Rattle.lines.proofs.submit_line.Goals as goal
use Rattle.lines.proofs.submit_line.Goals.{in-Ok, in_default}

-- only of an accepted press there is more than the number
no_tick : (answer : Submit) → ((tick : ℕ) → answer ≡ Ok tick → ⊥) → accepted_text answer ≡ []
unfolding accepted_text
no_tick (Ok tick) h = absurd (h tick refl)
no_tick (Err why) h = refl

pub returns : goal.returns
unfolding submit_line accepted_text
returns c =
    let answer = c.args.answer in
    let number = rw (c.from.ensures, c.number.ensures) at c.worded.ensures in
    let tick : (c.match-answer.out ≡ put c.worded.new.out (accepted_text answer)) × (length (accepted_text answer) ≤ 21) =
    elim c.match-answer.branch [
      | in-Ok w ↦
          let at = w.in-Ok in (
            rw (w.out-is, at.is, put-join) w.worded-in-Ok.ensures,
            rw (at.is, join-length) (omega (arith, decimal_20 at.at (omega arith))),
          )
      | in_default w ↦
          rw (no_tick answer w.in_default.not-Ok, w.out-is) (put_on _ _ c.worded.ensures, omega arith)
    ] in
    says c.clear.ensures (rw (put-join, ← number, ← tick.0) c.byte.ensures)
    (rw (join-length, ← c.number.ensures) (omega (arith, tick.1, decimal_20 c.number.result (omega arith))))

-- `desync::DesyncReport::json` meets its contract: six texts on a cleared one, and the types of the numbers say that they fit. Assumes
-- nothing.
use native.Mathlib.Omega.{arith}
use Rattle.std.proofs.Common.{rules}
use Rattle.text.proofs.Writing.{put-join, put_said}
use Rattle.desync.specs.Json.{report_text}
use Rattle.desync.proofs.Laws.{report_length}
use Rattle.desync.proofs.DesyncReport.json.Goals as goal

pub returns : goal.returns
unfolding report_text
returns c =
    let within = report_length c.args.self (search (rules, c.own.ensures.last_tick_within_20)) in
    record {
      writes =
          put_said _ (omega (arith, within))
          (rw (
            put-join,
            ← (rw c.clear.ensures at c.head.ensures),
            ← c.verdict.ensures,
            ← c.own.ensures.writes,
            ← c.lists.ensures,
            ← c.agreed.ensures,
          ) c.counters.ensures);
      within_report_most = within;
    }

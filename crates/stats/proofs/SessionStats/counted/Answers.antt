-- `stats::SessionStats::counted` meets its contract: each counter by what `raise_if` ensures. Assumes nothing.
use Rattle.stats.specs.Stats.{counted_of}
use Rattle.stats.proofs.SessionStats.counted.Goals as goal

pub returns : goal.returns
unfolding counted_of
returns c =
    let first = c.before.before.before in
    rw (
      first.raise_if.ensures,
      c.raise_if-2.ensures,
      c.raise_if-3.ensures,
      c.raise_if-4.ensures,
      first.is_outside-refused.ensures,
    )

-- Document 01: "Refused deliveries 21 to 31 raise `datagrams_refused`; 27, 28 and 30 raise their own counter too. ..
-- Counters stop at 2^64-1." And of a stall: "a count, `stall_pumps`, raised by one, from 0 if the tick isn't the last
-- stalled one". Assumes nothing.
use Rattle.std.specs.Prelude.{ℕ, Bool, not, eqb}
use Rattle.logic.specs.Test.{when◌then◌else◌}
use Rattle.logic.specs.Range.{outside}
use Rattle.logic.specs.Saturating.{raised}
use Rattle.stats.specs.declared.SessionStats.{SessionStats}

-- one more where b holds
unfoldable pub raised_if : Bool → ℕ → ℕ
raised_if b n = when b then raised n else n

-- the counters of a new session
unfoldable pub no_stats : SessionStats
no_stats = record {
  datagrams_refused = 0;
  frames_repeated = 0;
  frames_contradicted = 0;
  frames_out_of_window = 0;
  digests_contradicted = 0;
  stall_pumps = 0;
}

-- after a delivery that answered n: 21 to 31 raise `datagrams_refused`; 27, 28 and 30 raise their own counter too
unfoldable pub counted_of : SessionStats → ℕ → SessionStats
counted_of s n = record {
  datagrams_refused = raised_if (not (outside 21 31 n)) s.datagrams_refused;
  frames_repeated = s.frames_repeated;
  frames_contradicted = raised_if (eqb n 28) s.frames_contradicted;
  frames_out_of_window = raised_if (eqb n 27) s.frames_out_of_window;
  digests_contradicted = raised_if (eqb n 30) s.digests_contradicted;
  stall_pumps = s.stall_pumps;
}

-- after a stall, which is `again` one at the tick of the last
unfoldable pub stalled_of : SessionStats → Bool → SessionStats
stalled_of s again = record {
  datagrams_refused = s.datagrams_refused;
  frames_repeated = s.frames_repeated;
  frames_contradicted = s.frames_contradicted;
  frames_out_of_window = s.frames_out_of_window;
  digests_contradicted = s.digests_contradicted;
  stall_pumps = raised (when again then s.stall_pumps else 0);
}

-- with the counter of repeated frames at n
unfoldable pub repeated_of : SessionStats → ℕ → SessionStats
repeated_of s n = record {
  datagrams_refused = s.datagrams_refused;
  frames_repeated = n;
  frames_contradicted = s.frames_contradicted;
  frames_out_of_window = s.frames_out_of_window;
  digests_contradicted = s.digests_contradicted;
  stall_pumps = s.stall_pumps;
}

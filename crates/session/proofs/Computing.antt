-- What the host's calls compute with, the session's definitions and those under them, as one name to unfold: under
-- `unfolding hosting` a proof computes a call. Assumes nothing.
use Rattle.logic.specs.Test.{when◌then◌else◌}
use Rattle.logic.specs.Range.{outside}
use Rattle.logic.specs.Saturating.{raised}
use Rattle.logic.specs.Tabulate.{tabulate}
use Rattle.hash.specs.Fnv.{fnv, le_bytes}
use Rattle.peer.specs.Seats.{has, set_of, every, first_seats, adding, removing, is_subset}
use Rattle.params.specs.Params.{validity, bad_state, agreement_bytes, agreement_of, roster_of, remotes_of}
use Rattle.window.specs.Window.{fresh_window, held_by, is_held, frame_of, written, write_frame}
use Rattle.rows.specs.Rows.{padded, rows_of, heads, step_digest}
use Rattle.fingerprint.specs.Cells.{own_cell, remote_cell, no_prints, cell_at, stored_at, own}
use Rattle.fingerprint.specs.Cells.{remote, with_own, with_remote, of_tick, own_for, remote_for}
use Rattle.fingerprint.specs.Judging.{agrees, all_agree, parted_by, parted}
use Rattle.stats.specs.Stats.{no_stats}
use Rattle.session.specs.Session.{fresh_head, fresh, is_playing, every_seat, ended, starts, started}
use Rattle.session.specs.Host.{opened, pressed, submit_open, submit_by, submit_head, submit}
use Rattle.session.specs.Host.{leave_by, leave_head, leave}
use Rattle.session.specs.Step.{stepped, take_step, play_on, advance_by, advance_from, advance_head, advance}
use Rattle.session.specs.Step.{played, judge, keep_digest, commit_from, commit}

unfoldable pub hosting : Unit {0}
unfolding when◌then◌else◌ outside raised tabulate fnv le_bytes
    has set_of every first_seats adding removing is_subset
    validity bad_state agreement_bytes agreement_of roster_of remotes_of
    fresh_window held_by is_held frame_of written write_frame padded rows_of heads step_digest
    own_cell remote_cell no_prints cell_at stored_at own remote with_own with_remote of_tick own_for remote_for
    agrees all_agree parted_by parted no_stats
    fresh_head fresh is_playing every_seat ended starts started opened pressed submit_open submit_by submit_head submit
    leave_by leave_head leave stepped take_step play_on advance_by advance_from advance_head advance
    played judge keep_digest commit_from commit
hosting = tt

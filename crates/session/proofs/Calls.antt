-- What the calls of a session are defined by, as one name: under it the search proves each function of the crate, but
-- for what its answers say. Assumes nothing.
use Rattle.logic.specs.Test.{when◌then◌else◌}
use Rattle.params.specs.Params.{check_of}
use Rattle.session.specs.Session.{fresh_head, fresh, every_seat, ended, starts, started}
use Rattle.session.specs.Host.{opened, pressed, submit_open, submit_by, submit_head, submit}
use Rattle.session.specs.Host.{leave_by, leave_head, leave}
use Rattle.session.specs.Step.{no_rows, stepped, take_step, stall, drain, play_on, advance_by, advance_from, advance_head}
use Rattle.session.specs.Step.{advance, played, judge, keep_digest, commit_from, commit}

unfoldable pub calls : Unit {0}
unfolding when◌then◌else◌ check_of fresh_head fresh every_seat ended starts started
    opened pressed submit_open submit_by submit_head submit leave_by leave_head leave
    no_rows stepped take_step stall drain play_on advance_by advance_from advance_head advance
    played judge keep_digest commit_from commit
calls = tt

-- `session::Session::unopened` meets its contract: zeros, over parameters that are zeros. Assumes nothing.
use Rattle.std.proofs.Common.{rules, ◌≡◌, ap}
use lib.ListN.{replicate}
use Rattle.peer.specs.Cells.{window}
use Rattle.params.specs.Params.{zero_params}
use Rattle.params.specs.declared.SessionParams.{SessionParams}
use Rattle.window.specs.Window.{ring_bytes, window_of}
use Rattle.fingerprint.specs.Cells.{no_prints}
use Rattle.session.specs.Session.{session_of, fresh_head}
use Rattle.session.specs.Host.{unopened}
use Rattle.session.proofs.Session.unopened.Goals as goal

pub returns : goal.returns
unfolding unopened
returns c =
    let zeros : c.default.result ≡ zero_params = search rules in
    rw (c.new.ensures, c.new-2.ensures)
    (ap (λ (p : SessionParams). session_of (fresh_head p)
    (window_of (replicate ring_bytes 0) (replicate window 0) (replicate window 0)) no_prints) zeros)

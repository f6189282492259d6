-- `params::SessionParams::bad_state` meets its contract. Assumes nothing.
use Rattle.std.proofs.Common.{rules}
use Rattle.params.specs.Params.{validity, bad_state}
use Rattle.params.proofs.Laws.{refused_or_not}
use Rattle.params.proofs.SessionParams.bad_state.Goals as goal

pub returns : goal.returns
unfolding bad_state
returns c = let e = refused_or_not (validity c.args.self) in search rules

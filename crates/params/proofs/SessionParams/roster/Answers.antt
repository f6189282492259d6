-- `params::SessionParams::roster` meets its contract. Assumes nothing.
use Rattle.params.specs.Params.{roster_of}
use Rattle.params.proofs.SessionParams.roster.Goals as goal

pub returns : goal.returns
unfolding roster_of
returns c = c.of_count.ensures

-- `params::SessionParams::remotes` meets its contract. Assumes nothing.
use Rattle.params.specs.Params.{remotes_of}
use Rattle.params.proofs.SessionParams.remotes.Goals as goal

pub returns : goal.returns
unfolding remotes_of
returns c = rw (← c.roster.ensures) c.without.ensures

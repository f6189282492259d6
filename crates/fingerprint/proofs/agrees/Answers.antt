-- `fingerprint::agrees` meets its contract. Assumes nothing.
use Rattle.std.proofs.Common.{rules}
use Rattle.fingerprint.specs.Judging.{agrees}
use Rattle.fingerprint.proofs.agrees.Goals as goal

pub returns : goal.returns
unfolding agrees
returns c = search rules

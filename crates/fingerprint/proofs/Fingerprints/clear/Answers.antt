-- `fingerprint::Fingerprints::clear` meets its contract. Assumes nothing.
use mathlib.Core.Path.{refl}
use Rattle.fingerprint.specs.Cells.{no_prints}
use Rattle.fingerprint.proofs.Fingerprints.clear.Goals as goal

pub returns : goal.returns
unfolding no_prints
returns c = refl

-- `fingerprint::Fingerprints::new` meets its contract. Assumes nothing.
use mathlib.Core.Path.{refl}
use Rattle.fingerprint.specs.Cells.{no_prints}
use Rattle.fingerprint.proofs.Fingerprints.new.Goals as goal

pub returns : goal.returns
unfolding no_prints
returns c = refl

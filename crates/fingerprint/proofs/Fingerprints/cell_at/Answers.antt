-- `fingerprint::Fingerprints::cell_at` meets its contract: the mark decides, and past the end there is none.
-- Assumes nothing.
use Rattle.std.proofs.Common.{rules}
use lib.ListN.{get_or-eq_default}
use Rattle.logic.specs.Test.{when◌then◌else◌}
use Rattle.fingerprint.specs.Cells.{cell_at}
use Rattle.fingerprint.proofs.Fingerprints.cell_at.Goals as goal

pub returns-then-self-cell : goal.returns-then-self-cell
unfolding cell_at when◌then◌else◌
returns-then-self-cell c = search rules

pub returns : goal.returns
unfolding cell_at when◌then◌else◌
returns c = search (rules, get_or-eq_default)

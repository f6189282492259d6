-- `script::record_lacks` meets its contract. Assumes nothing.
use mathlib.Core.Path.{sym, ◌∙◌}
use native.Mathlib.Omega.{arith}
use Prim.Native.Nat.{◌+◌}
use lib.ListN.{length}
use Rattle.std.proofs.Common.{rules}
use Rattle.logic.proofs.Cases.{case_lt}
use Rattle.logic.specs.Test.{when◌then◌else◌}
use Rattle.script.specs.Records.{record_lacks}
use Rattle.script.proofs.Laws.{size_whole, none_is_no_size}
use Rattle.script.proofs.record_lacks.Goals as goal

pub returns-then-have-lt-HEADER-clause-value : goal.returns-then-have-lt-HEADER-clause-value
unfolding record_lacks when◌then◌else◌
returns-then-have-lt-HEADER-clause-value c = search rules

pub returns-clause-value : goal.returns-clause-value
unfolding record_lacks when◌then◌else◌
returns-clause-value c = search rules

pub returns-clause-within_longest : goal.returns-clause-within_longest
returns-clause-within_longest c =
    λ e. case_lt (length c.args.bytes.now) (4 + c.le.result)
    (λ part. omega (arith, c.saturating_sub.ensures, c.le.ensures.fits_bytes, part))
    (λ whole. absurd (none_is_no_size _ (sym e ∙ size_whole c.args.bytes.now (omega (arith, c.le.ensures.value, whole)))))

-- Document 01's table of cases holds: what the definitions give in each row is what document 01 says.
-- Assumes nothing.
use mathlib.Core.Path.{◌≡◌, refl}
use mathlib.Core.List.{List, [], ◌∷◌, map}
use mathlib.Core.Bool.{Bool, true, ◌&&◌}
use Rattle.logic.proofs.Cases.{and_both}
use Rattle.window.specs.Absorb.{same_bytes}
use Rattle.window.proofs.Same.{same_eq}
use Rattle.deliver.proofs.Computing.{delivering}
use Rattle.table.specs.Cases.{Row, played, table}

-- in each row the two lists hold the same numbers: one test that antt computes. As an equation of lists, `refl` on the
-- sessions of P6 runs past antt's step limit
all_same : List Row → Bool
all_same [] = true
all_same (r ∷ rs) = same_bytes r.given r.said && all_same rs

same_rows : (rs : List Row) → all_same rs ≡ true → map (λ r. r.given) rs ≡ map (λ r. r.said) rs
unfolding all_same
same_rows [] e = refl
same_rows (r ∷ rs) e =
    let p = and_both (same_bytes r.given r.said) (all_same rs) e in
    cc (same_eq r.given r.said p.0, same_rows rs p.1)

table_holds : map (λ r. r.given) table ≡ map (λ r. r.said) table
unfolding delivering played table all_same
table_holds = same_rows table refl

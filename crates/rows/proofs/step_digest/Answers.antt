-- `rows::step_digest` meets its contract: the loop has hashed the heads of the first rows. Assumes nothing.
use mathlib.Core.Path.{◌≡◌, refl, sym, ◌∙◌}
use mathlib.Core.List.{[]}
use native.Mathlib.Numerals.{add-one}
use native.Mathlib.Omega.{arith}
use lib.ListN.{length, get_or, take}
use borrow.Author.Rules.{rules}
use Rattle.hash.specs.Fnv.{fnv, le_bytes}
use Rattle.hash.proofs.Laws.{fnv-append}
use Rattle.peer.specs.Seats.{seats}
use Rattle.rows.specs.Rows.{heads, step_digest}
use Rattle.rows.proofs.Laws.{heads_more}
use Rattle.rows.proofs.Loops.{heads_upto}
use Rattle.rows.proofs.step_digest.Goals as goal

pub loop-row-init : goal.loop-row-init
unfolding fnv heads
loop-row-init c = refl

pub loop-row-preserved : goal.loop-row-preserved
loop-row-preserved c =
    let a = c.args in
    let rows = take c.min.result a.rows in
    let k = c.loop-row.row-index in
    rw (c.absorb_head-h.ensures, c.loop-row.invariant, add-one, heads_more rows a.width k c.loop-row-test.true)
    (sym (fnv-append c.absorb_u64-h.result.value (heads k a.width rows) (take a.width (get_or rows k []))))

pub returns : goal.returns
unfolding step_digest
returns c =
    let a = c.args in
    let long : length a.rows ≡ seats = search rules in
    let n = c.min.result in
    let all : c.loop-row.row-index ≡ length (take n a.rows) = omega arith in
    let hashed : heads c.loop-row.row-index a.width (take n a.rows) ≡ heads a.count a.width a.rows =
    rw all (heads_upto a.count n a.width a.rows (rw (c.from.ensures, ← long) at c.min.ensures)) in
    c.finish.ensures ∙ c.loop-row.invariant
    ∙ rw (hashed, c.absorb_u64-h.ensures) (sym (fnv-append a.digest (le_bytes 8 a.tick) _))

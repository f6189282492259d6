-- `script::rest_of` meets its contract. Assumes nothing.
use mathlib.Core.Path.{◌≡◌, ap, ◌∙◌}
use native.Mathlib.Omega.{arith}
use lib.ListN.{length, drop}
use Rattle.script.specs.Records.{kind_of, rest_start, rest_of}
use Rattle.script.proofs.Laws.{from_on, rest_within}
use Rattle.script.proofs.rest_of.Goals as goal

pub slice_bounds-result-count : goal.slice_bounds-result-count
slice_bounds-result-count c =
    omega (arith, c.rest_start-from.ensures, rest_within c.le.result (length c.args.bytes.now))

pub slice_bounds-result-start : goal.slice_bounds-result-start
slice_bounds-result-start c = omega (arith, rest_within c.le.result (length c.args.bytes.now))

pub returns : goal.returns
unfolding rest_of
returns c =
    let r = c.args.bytes.now in
    let from : c.rest_start-from.result ≡ rest_start (kind_of r) (length r) =
    c.rest_start-from.ensures ∙ ap (λ k. rest_start k (length r)) c.le.ensures.value in
    from_on r c.rest_start-from.result ∙ ap (λ i. drop i r) from

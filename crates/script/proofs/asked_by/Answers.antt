-- `script::asked_by` meets its contract: each return is a case of the definition. Assumes nothing.
use mathlib.Core.Path.{◌≡◌, sym, ◌∙◌}
use mathlib.Core.Bool.{true}
use mathlib.Core.List.{List}
use Prim.Native.Nat.{ℕ, ◌≤◌}
use lib.Dec.{eqb}
use lib.ListN.{length}
use borrow.Author.Tests.{lt-ltb, le-ltb, eq-eqb, ne_eqb}
use Rattle.logic.specs.Test.{when◌then◌else◌}
use Rattle.script.specs.Records.{header, right_length, params_from, call_from, kind_of, payload_of, asked}
use Rattle.script.specs.declared.Asked.TheVariants.{Open, Of}
use Rattle.script.proofs.Laws.{from_on}
use Rattle.script.proofs.asked_by.Goals as goal

pub returns-then-bytes-lt-HEADER : goal.returns-then-bytes-lt-HEADER
unfolding asked when◌then◌else◌
returns-then-bytes-lt-HEADER c = rw (lt-ltb _ _ c.if-bytes-lt-HEADER.true)

-- past the two tests of its form, what a record asks
good : (r : List ℕ) → header ≤ length r → right_length (kind_of r) (length (payload_of r)) ≡ true
    → asked r ≡ when eqb (kind_of r) 1 then Open (params_from (payload_of r)) else Of (call_from (kind_of r) (payload_of r))
unfolding asked when◌then◌else◌
good r long right = rw (le-ltb _ _ long, right)

pub returns-then-not-right_length : goal.returns-then-not-right_length
unfolding asked when◌then◌else◌
returns-then-not-right_length c =
    rw (← c.le-kind.ensures.value, le-ltb _ _ c.if-bytes-lt-HEADER.false, ← from_on c.args.bytes.now 4)
    (rw (← c.right_length.ensures, c.if-not-right_length.true))

pub returns-then-kind-eq1 : goal.returns-then-kind-eq1
unfolding when◌then◌else◌
returns-then-kind-eq1 c =
    let r = c.args.bytes.now in
    let right : right_length (kind_of r) (length (payload_of r)) ≡ true =
    rw (← c.le-kind.ensures.value, ← from_on r 4) (sym c.right_length.ensures ∙ c.if-not-right_length.false) in
    rw (
      good r c.if-bytes-lt-HEADER.false right,
      ← c.le-kind.ensures.value,
      eq-eqb _ _ c.if-kind-eq1.true,
      c.params_from.ensures,
      from_on _ 4,
    )

pub returns : goal.returns
unfolding when◌then◌else◌
returns c =
    let r = c.args.bytes.now in
    let right : right_length (kind_of r) (length (payload_of r)) ≡ true =
    rw (← c.le-kind.ensures.value, ← from_on r 4) (sym c.right_length.ensures ∙ c.if-not-right_length.false) in
    rw (
      good r c.if-bytes-lt-HEADER.false right,
      ← c.le-kind.ensures.value,
      ne_eqb _ _ c.if-kind-eq1.false,
      c.call_from.ensures,
      from_on _ 4,
    )

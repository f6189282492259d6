-- `stream::Reader::feed_one` meets its contract: a whole record at the front of the piece, one that is whole now, or one
-- that still is not. Assumes nothing.
use Rattle.std.proofs.Common.{◌≡◌, ℕ, Option, None, Some, is_some, true, false, refl, sym, ◌∙◌, arith}
use Rattle.std.proofs.Common.{length-take-le}
use mathlib.Core.Bool.{false≢true}
use Rattle.script.specs.Records.{record_size}
use Rattle.script.proofs.Laws.{size_is}
use Rattle.stream.proofs.Laws.{Gathers, none_begun, empty, gathers_here, whole_here, gathers_put, feeds_part, feeds_whole}
use Rattle.stream.proofs.Reader.feed_one.Goals as goal
use Rattle.stream.proofs.Reader.feed_one.Goals.{After-is_some}

some_of : (o : Option ℕ) → is_some o ≡ true → (n : ℕ) × (o ≡ Some n)
some_of (Some n) e = (n, refl)
some_of None e = absurd (false≢true e)

none_of : (o : Option ℕ) → is_some o ≡ false → o ≡ None
none_of (Some n) e = absurd (false≢true (sym e))
none_of None e = refl

-- where the bytes are gathered
gathered : (c : After-is_some) → Gathers c.args.self.now.begun c.args.piece.now c.min-used.result c.piece.new.self
gathered c =
    let begun = c.as_bytes.ensures in
    let lacks = rw begun at c.record_lacks.ensures in
    gathers_put c.args.self.now.begun c.args.piece.now c.piece.new.self c.record_lacks.result _ c.args.self.now.part
    lacks.value (lacks.within_longest c.args.self.now.part) c.min-used.ensures c.piece.ensures

pub slice_bounds-run_record-end : goal.slice_bounds-run_record-end
slice_bounds-run_record-end c = sym (length-take-le _ _ (size_is _ _ (sym c.in-Some.ensures.value)).1)

pub returns-in-Some-clause-feeds : goal.returns-in-Some-clause-feeds
returns-in-Some-clause-feeds c =
    let a = c.args in
    let size = sym c.in-Some.ensures.value in
    let none = empty a.self.now.begun (sym c.len.ensures.length ∙ c.if-len-eq0.true) in
    rw none
    (feeds_whole a.form _ _ a.piece.now _ _ none_begun (gathers_here a.piece.now _ size) _
    (whole_here a.piece.now _ size) c.run_record.ensures)

pub invariant_of-self : goal.invariant_of-self
invariant_of-self c = record { part = rw c.clear.ensures none_begun }

pub returns-then-is_some-clause-feeds : goal.returns-then-is_some-clause-feeds
returns-then-is_some-clause-feeds c =
    let a = c.args in
    let at = (goal.at.returns-then-is_some-clause-feeds c).After-is_some in
    let whole = some_of _ (sym c.is_some.ensures ∙ c.if-is_some.true) in
    let size = rw c.as_bytes-2.ensures at (sym c.record_size-2.ensures.value ∙ whole.1) in
    let ran = rw c.as_bytes-then-is_some.ensures at c.run_record-then-is_some.ensures in
    rw c.clear.ensures (feeds_whole a.form _ _ a.piece.now _ _ a.self.now.part (gathered at) _ size ran)

pub returns-else-is_some-clause-feeds : goal.returns-else-is_some-clause-feeds
returns-else-is_some-clause-feeds c =
    let a = c.args in
    let at = (goal.at.returns-else-is_some-clause-feeds c).After-is_some in
    let part = none_of _ (sym c.is_some.ensures ∙ c.if-is_some.false) in
    let none = rw c.as_bytes-2.ensures at (sym c.record_size-2.ensures.value ∙ part) in
    rw c.clear-else-is_some.ensures (feeds_part a.form _ _ a.piece.now _ _ a.self.now.part (gathered at) none)

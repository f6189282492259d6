-- `wire::InputsBody::form` meets its contract: each return goes by the tests on its way. Assumes nothing.
use mathlib.Core.Path.{◌≡◌, sym, ◌∙◌}
use Prim.Native.Nat.{◌+◌, ◌*◌, ◌<◌}
use native.Mathlib.Omega.{arith}
use borrow.Author.Tests.{lt-ltb, eq-eqb, ne_eqb}
use Rattle.std.proofs.Common.{rules}
use Rattle.logic.specs.Test.{when◌then◌else◌}
use Rattle.logic.specs.Saturating.{most}
use Rattle.logic.proofs.Cases.{case_lt}
use Rattle.wire.specs.Wire.{width_form, inputs_form}
use Rattle.wire.proofs.Laws.{good_width, no_sum}
use Rattle.wire.proofs.InputsBody.form.Goals as goal

pub returns-in_err-width_form : goal.returns-in_err-width_form
unfolding width_form inputs_form when◌then◌else◌
returns-in_err-width_form c = search rules

pub returns-then-is_outside : goal.returns-then-is_outside
unfolding inputs_form when◌then◌else◌
returns-then-is_outside c =
    rw (good_width _ (sym c.width_form.ensures ∙ c.in_ok-width_form.was), sym c.is_outside.ensures ∙ c.if-is_outside.true)

pub returns-then-length-declared : goal.returns-then-length-declared
unfolding inputs_form when◌then◌else◌
returns-then-length-declared c =
    rw (
      good_width _ (sym c.width_form.ensures ∙ c.in_ok-width_form.was),
      sym c.is_outside.ensures ∙ c.if-is_outside.false,
      ← c.from.ensures,
      ← c.from-2.ensures,
      ne_eqb _ _ c.if-length-declared.true,
    )

pub returns-then-is_none : goal.returns-then-is_none
unfolding inputs_form when◌then◌else◌
returns-then-is_none c =
    let b = c.args.self in
    let long : c.args.length ≡ b.count * b.width = cc in
    let past : most < b.first + b.count =
    case_lt most _ (λ l. l) (λ l. absurd (no_sum _ _ c.checked_add.ensures c.if-is_none.ensures (omega (arith, c.from-3.ensures, l)))) in
    rw (
      good_width _ (sym c.width_form.ensures ∙ c.in_ok-width_form.was),
      sym c.is_outside.ensures ∙ c.if-is_outside.false,
      eq-eqb _ _ long,
      lt-ltb _ _ past,
    )

pub returns : goal.returns
unfolding width_form inputs_form when◌then◌else◌
returns c = search rules

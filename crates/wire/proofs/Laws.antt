-- What a message is that has a good form.
-- Assumes nothing.
use mathlib.Core.Path.{◌≡◌}
use mathlib.Core.Bool.{false, true≢false}
use mathlib.Core.List.{List}
use Rattle.std.specs.Prelude.{Option, Some, None, Result, Ok, Err}
use Rattle.std.specs.Option.{SomeIff, is_some}
use Prim.Native.Nat.{ℕ, ◌+◌, ◌*◌, ◌≤◌, ◌<◌}
use native.Mathlib.Omega.{arith}
use lib.Dec.{eqb, ltb}
use lib.ListN.{length}
use borrow.Author.Tests.{ltb-true, ltb-false, eqb-true, eqb-false, not-false}
use Rattle.logic.specs.Saturating.{most}
use Rattle.logic.specs.Range.{outside}
use Rattle.logic.proofs.Cases.{by_test}
use Rattle.peer.specs.Seats.{seats}
use Rattle.params.specs.Params.{max_width}
use Rattle.params.proofs.Laws.{Within, inside}
use Rattle.wire.specs.declared.InputsBody.{InputsBody}
use Rattle.wire.specs.declared.Message.{Message}
use Rattle.wire.specs.declared.WireError.{WireError}
use Rattle.wire.specs.Wire.{redundancy, width_form, inputs_form, body_form, form_of}

-- what holds of a good form, and of a malformed one by contradiction
record IfGood (P : Type 0) (f : Result (Unit {0}) WireError) : Type 0 where
  so : f ≡ Ok tt → P

refused : {P : Type 0} {e : WireError} → IfGood P (Err e)
refused = record { so = λ q. let z : ◌≡◌ {A = ℕ} 0 1 = cc in absurd (omega arith) }

-- a width that passes
pub good_width : (width : ℕ) → width_form width ≡ Ok tt → outside 1 max_width width ≡ false
unfolding width_form
good_width width =
    (by_test (IfGood (outside 1 max_width width ≡ false)) (λ _. refused) (λ passes. record { so = λ _. passes })).so

-- a sum that is none does not fit
pub no_sum : {P : Type 0} (n : ℕ) (r : Option ℕ) → SomeIff r P n → is_some r ≡ false → P → ⊥
no_sum n None fails e = fails
no_sum n (Some x) fits e = λ _. true≢false e

-- a good message of any kind
pub record GoodHeader (m : Message) (run : List ℕ) : Type 0 where
  pub sender : m.sender < seats
  pub session : m.session ≡ 0 → ⊥
  pub body : body_form m.body (length run) ≡ Ok tt

pub good_header : (m : Message) (run : List ℕ) → form_of m run ≡ Ok tt → GoodHeader m run
unfolding form_of
good_header m run =
    (by_test (IfGood (GoodHeader m run)) (λ _. refused)
    (λ sender. by_test (IfGood (GoodHeader m run)) (λ _. refused)
    (λ session. record {
      so = λ body. record {
        sender = ltb-true m.sender seats (not-false (ltb m.sender seats) sender);
        session = eqb-false m.session 0 session;
        body = body;
      };
    }))).so

-- a good Inputs
pub record GoodInputs (i : InputsBody) (run : ℕ) : Type 0 where
  pub width : Within 1 max_width i.width
  pub count : Within 1 redundancy i.count
  pub long : run ≡ i.count * i.width
  pub ticks : i.first + i.count ≤ most

pub good_inputs : (i : InputsBody) (run : ℕ) → inputs_form i run ≡ Ok tt → GoodInputs i run
unfolding inputs_form
good_inputs i run =
    (by_test (IfGood (GoodInputs i run)) (λ _. refused)
    (λ width. by_test (IfGood (GoodInputs i run)) (λ _. refused)
    (λ count. by_test (IfGood (GoodInputs i run)) (λ _. refused)
    (λ long. by_test (IfGood (GoodInputs i run)) (λ _. refused)
    (λ ticks. record {
      so = λ _. record {
        width = inside 1 max_width i.width width;
        count = inside 1 redundancy i.count count;
        long = eqb-true run (i.count * i.width) (not-false (eqb run (i.count * i.width)) long);
        ticks = ltb-false most (i.first + i.count) ticks;
      };
    }))))).so

-- `text::hex_digit` meets its contract. Assumes nothing.
use Rattle.std.proofs.Common.{◌≡◌, ◌+◌, ◌-◌, sym, ◌∙◌, arith}
use borrow.Author.Tests.{lt-ltb, le-ltb}
use Rattle.logic.proofs.Cases.{if_true, if_false}
use Rattle.text.specs.Hex.{hex_digit}
use Rattle.text.proofs.hex_digit.Goals as goal

pub returns-then-d-lt10 : goal.returns-then-d-lt10
unfolding hex_digit
returns-then-d-lt10 c = sym (if_true _ _ (lt-ltb _ _ c.if-d-lt10.true))

pub returns : goal.returns
unfolding hex_digit
returns c =
    let letter : 97 + (c.args.d - 10) ≡ 87 + c.args.d = omega arith in
    letter ∙ sym (if_false _ _ (le-ltb _ _ c.if-d-lt10.false))

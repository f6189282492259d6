-- `text::Buffer::decimal` meets its contract: the digits of a tenth, then the last one. Assumes nothing.
use Rattle.std.proofs.Common.{◌≡◌, ◌%◌, arith}
use Rattle.text.proofs.Writing.{within_append}
use Rattle.text.proofs.Decimals.{decimal_small, decimal_more}
use Rattle.text.proofs.Buffer.+decimal.Goals as goal
use Rattle.text.proofs.Buffer.+decimal.Goals.{then-n-ge10, else-n-ge10}

pub returns : goal.returns
returns g t c =
    let n = c.args.n in
    elim c.if-n-ge10.branch [
      | then-n-ge10 w ↦ rw (decimal_more n w.if-n-ge10.true, within_append, ← w.decimal.ensures, ← w.self-is) c.byte.ensures
      | else-n-ge10 w ↦
          let same : n % 10 ≡ n = omega arith in
          rw (decimal_small n w.if-n-ge10.false, ← same, ← w.self-is) c.byte.ensures
    ]

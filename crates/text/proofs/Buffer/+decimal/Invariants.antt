use Rattle.text.proofs.Buffer.+decimal.Given as goal

abbrev pub decreases-decimal : goal.decreases-decimal
decreases-decimal g l = l.n

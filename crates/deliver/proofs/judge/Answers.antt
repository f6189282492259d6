-- `deliver::judge` meets its contract. Assumes nothing.
use Rattle.logic.specs.Test.{when◌then◌else◌}
use Rattle.deliver.specs.Deliver.{judged}
use Rattle.deliver.proofs.judge.Goals as goal

pub returns-then-parted : goal.returns-then-parted
unfolding judged when◌then◌else◌
returns-then-parted c = rw (← c.remotes.ensures, ← c.parted.ensures, c.if-parted.true, ← c.end.ensures)

pub returns : goal.returns
unfolding judged when◌then◌else◌
returns c = rw (← c.remotes.ensures, ← c.parted.ensures, c.if-parted.false)

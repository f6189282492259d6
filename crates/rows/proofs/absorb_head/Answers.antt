-- `rows::absorb_head` meets its contract. Assumes nothing.
use mathlib.Core.Path.{◌≡◌, ◌∙◌}
use borrow.Author.Rules.{rules}
use lib.ListN.{length}
use Rattle.logic.proofs.Fronts.{take_min}
use Rattle.params.specs.Params.{max_width}
use Rattle.rows.proofs.absorb_head.Goals as goal

pub returns : goal.returns
returns c =
    let row = c.args.row.now in
    let long : length row ≡ max_width = search rules in
    c.absorb_bytes.ensures ∙ rw (c.min-n.ensures, c.from.ensures, ← long, take_min)

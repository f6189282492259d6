-- `text::Buffer::piece` meets its contract: as many bytes as there is room for stand behind the text. Assumes nothing.
use Rattle.std.proofs.Common.{ap, ◌∙◌}
use Rattle.text.specs.Text.{put_within}
use Rattle.text.proofs.Pages.{filled}
use Rattle.text.proofs.Buffer.piece.Goals as goal

pub returns : goal.returns
returns g c =
    let q = c.self.inside in
    filled q.bytes c.args.s.now q.len _ _ c.self.told c.min-from.ensures c.min-n.ensures c.copy_from_slice.ensures.after
    ∙ ap (λ text. put_within g.row.N text c.args.s.now) c.self.view_is

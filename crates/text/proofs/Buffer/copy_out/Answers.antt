-- `text::Buffer::copy_out` meets its contract. Assumes nothing.
use Rattle.std.proofs.Common.{refl}
use Rattle.text.proofs.Copying.{no_room, with_room}
use Rattle.text.proofs.Buffer.copy_out.Goals as goal

pub returns-then-out-n : goal.returns-then-out-n
returns-then-out-n g c = no_room _ _ (rw c.as_bytes-text.ensures at c.if-out-n.true)

pub returns : goal.returns
returns g c =
    let text = c.as_bytes-text.ensures in
    rw (c.copy_from_slice.ensures.after, text) (with_room _ _ _ _ refl (rw text at c.if-out-n.false) refl)

-- `text::Buffer::byte` meets its contract: the byte is stored where there is room. Assumes nothing.
use Rattle.text.proofs.Pages.{stored, full}
use Rattle.text.proofs.Buffer.byte.Goals as goal

pub returns-then-self : goal.returns-then-self
returns-then-self g c = stored c.self.inside.bytes _ _ c.self.told c.self.view_is c.if-self.true

pub returns-else-self : goal.returns-else-self
returns-else-self g c = full c.self.inside.bytes _ _ c.self.told c.self.view_is c.if-self.false

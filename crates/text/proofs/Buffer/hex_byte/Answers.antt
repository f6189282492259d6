-- `text::Buffer::hex_byte` meets its contract: the upper digit, then the lower one. Assumes nothing.
use Rattle.std.proofs.Common.{◌≡◌, ℕ, ◌/◌, ◌%◌, [], ◌∷◌, sym, ap₂, ◌∙◌, arith}
use Rattle.text.specs.Text.{put_within}
use Rattle.text.specs.Hex.{hex_digits}
use Rattle.text.proofs.Writing.{within_append}
use Rattle.text.proofs.Buffer.hex_byte.Goals as goal

pub returns : goal.returns
unfolding hex_digits
returns g c =
    let a = c.hex_digit in
    let b = c.hex_digit-2 in
    let text = c.args.self.now in
    let upper : c.args.b / 16 % 16 ≡ c.args.b / 16 = omega arith in
    rw c.byte.ensures at c.byte-2.ensures ∙ sym (within_append g.row.N text (a.result ∷ []) (b.result ∷ []))
    ∙ ap₂ (λ (x y : ℕ). put_within g.row.N text (x ∷ y ∷ [])) (rw upper a.ensures) b.ensures

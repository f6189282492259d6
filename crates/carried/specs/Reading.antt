-- What a record that was read has of the buffer: none is longer than the buffer, which is as long as the longest record.
-- Assumes nothing.
use Rattle.std.specs.Prelude.{ℕ, length}
use Rattle.carried.specs.declared.Record.{Record}
use Rattle.carried.specs.declared.Record.TheVariants.{Whole, Cut, End}

abbrev pub size_of : Record → ℕ
size_of (Whole bytes) = length bytes.now
size_of Cut = 0
size_of End = 0

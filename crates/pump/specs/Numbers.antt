-- Document 01, "Numbers given back": the number of each answer of the pump.
-- Assumes nothing.
use Rattle.std.specs.Prelude.{ℕ}
use Rattle.pump.specs.declared.Outbound.{Outbound}
use Rattle.pump.specs.declared.Outbound.TheVariants.{Send, Nothing, BadState}

abbrev pub outbound_no : Outbound → ℕ
outbound_no (Send peer message) = 0
outbound_no Nothing = 71
outbound_no BadState = 20

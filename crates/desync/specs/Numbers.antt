-- Document 01, "Numbers given back": 20, 61 no desync, 62 no room.
-- Assumes nothing.
use Rattle.std.specs.Prelude.{ℕ}
use Rattle.desync.specs.declared.ReportError.{ReportError}
use Rattle.desync.specs.declared.ReportError.TheVariants as Report'
use Rattle.desync.specs.declared.WriteError.{WriteError}
use Rattle.desync.specs.declared.WriteError.TheVariants as Write'

abbrev pub report_error_no : ReportError → ℕ
report_error_no Report'.BadState = 20
report_error_no Report'.NoDesync = 61

abbrev pub write_error_no : WriteError → ℕ
write_error_no Write'.BadState = 20
write_error_no Write'.NoDesync = 61
write_error_no Write'.NoRoom = 62

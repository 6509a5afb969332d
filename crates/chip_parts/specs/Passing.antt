-- How many bytes an entry passes to SEND.
use Rattle.std.specs.Prelude.{ℕ, length, if◌then◌else◌}
use Rattle.chip_sheet.specs.declared.socket.Cause.{Cause}
use Rattle.chip_sheet.specs.declared.socket.Cause.TheVariants as because
use Rattle.chip_sheet.specs.Past.{Past}
use Rattle.chip_sheet.specs.Life.{status, lives}
use Rattle.chip_sheet.specs.Streams.{Starts, sends, sent, range_length}

-- How many bytes are passed to SEND on socket n by what happens after this past.
abbrev pub passed : Starts → Past → ℕ → Cause → ℕ
passed starts past n because.Send =
    if sends (status past n) then range_length starts past n (length (sent starts past n (lives past n))) else 0
passed starts past n why = 0

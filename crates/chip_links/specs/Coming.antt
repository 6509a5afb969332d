-- What a link event makes of the parts, and how many bytes it puts into the RX buffer of its socket.
use Rattle.std.specs.Prelude.{◌≡◌, ℕ, ◌∷◌, true, length}
use Rattle.chip_sheet.specs.declared.event.Entry.TheVariants.{Link}
use Rattle.chip_sheet.specs.declared.event.LinkEntry.{LinkEntry}
use Rattle.chip_sheet.specs.Past.{Past}
use Rattle.chip_sheet.specs.Life.{status}
use Rattle.chip_sheet.specs.Streams.{Starts, put_by}
use Rattle.chip_sheet.specs.Windows.{rx_free}
use Rattle.chip_sheet.specs.LinkCalls.{fits}
use Rattle.chip_sheet.specs.Legal.{Legal}
use Rattle.chip_parts.specs.declared.parts.Parts.{Parts}
use Rattle.chip_parts.specs.Holding.{Holds}

-- Those that what was received in the present life grows by, a datagram's header included.
abbrev pub came : Starts → Past → ℕ → LinkEntry → ℕ
came starts past n what = length (put_by (status past n) (rx_free starts past n) what)

-- With a link event of socket n that fits after a legal past for which the old parts stand, the new ones stand for the past with it.
abbrev pub TakesEvent : Parts → ℕ → LinkEntry → Parts → Type 0
TakesEvent old n what new = (starts : Starts) (past : Past) → Legal starts past → Holds starts old past → fits starts past n what ≡ true → Holds starts new (Link n what ∷ past)

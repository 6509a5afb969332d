-- The counts that the chip keeps.
use Rattle.std.specs.Prelude.{◌≡◌, ◌<◌, ℕ, ◌+◌, ◌^◌, List, slice_index_or}
use Rattle.chip_sheet.specs.Past.{Past}
use Rattle.chip_sheet.specs.Streams.{Starts}
use Rattle.chip_sheet.specs.Connections.{sent_in_all, taken_in_all, got_in_all}
use Rattle.chip_core.specs.declared.counts.Counts.{Counts}

-- The counts of a socket are those of this past.
pub record IsCounted (starts : Starts) (counts : Counts) (past : Past) (n : ℕ) : Type 0 where
  pub sent : counts.sent ≡ sent_in_all starts past n
  pub taken : counts.taken ≡ taken_in_all past n
  pub got : counts.got ≡ got_in_all starts past n

-- So are those of all sockets.
abbrev pub AllCounted : Starts → List Counts → Past → Type 0
AllCounted starts counts past = (n : ℕ) (other : Counts) → n < 8 → IsCounted starts (slice_index_or counts n other) past n

-- One event more does not bring a count to the end of its type.
pub record IsSmall (counts : Counts) : Type 0 where
  pub sent : counts.sent < 2 ^ 100
  pub taken : counts.taken < 2 ^ 100
  pub got : counts.got < 2 ^ 100

abbrev pub SmallCounts : List Counts → Type 0
SmallCounts counts = (n : ℕ) (other : Counts) → n < 8 → IsSmall (slice_index_or counts n other)

-- The counts once so many bytes more were passed to SEND, and once so many more were taken and received.
abbrev pub with_sent : Counts → ℕ → Counts
with_sent counts sent = record counts { sent = counts.sent + sent }

abbrev pub with_link : Counts → ℕ → ℕ → Counts
with_link counts taken got = record counts { taken = counts.taken + taken; got = counts.got + got }

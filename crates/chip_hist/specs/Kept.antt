-- How cells and bytes stand for what happened.
use Rattle.std.specs.Prelude.{◌≡◌, ℕ, zero, suc, ◌+◌, ◌-◌, ◌<◌, ◌≤◌, List, [], ◌∷◌, length, take, drop, All, AllPairs, Option, Some, None, if◌then◌else◌, ◌==◌}
use Rattle.chip_sheet.specs.declared.event.LinkEntry.{LinkEntry}
use Rattle.chip_sheet.specs.declared.event.LinkEntry.TheVariants.{Linked, Accepted, Refused, TimedOut, Took, Got, Datagram, Ended, Shut, Failed, Dropped}
use Rattle.chip_sheet.specs.declared.event.Entry.{Entry}
use Rattle.chip_sheet.specs.declared.event.Entry.TheVariants.{Bus, Link, Rest}
use Rattle.chip_sheet.specs.Past.{Past}
use Rattle.chip_hist.specs.declared.kept.Kept.{Kept}
use Rattle.chip_hist.specs.declared.kept.Kept.TheVariants as kept
use Rattle.chip_hist.specs.declared.kept.Cell.{Cell}
use Rattle.chip_hist.specs.declared.limits.TheConstants.{HIGHEST_LIMIT, MOST_EVENTS, MARGIN}
use Rattle.chip_hist.specs.Log.{weight_of}

-- The bytes from one place to another.
abbrev pub piece : List ℕ → ℕ → ℕ → List ℕ
piece bytes from to = take (to - from) (drop from bytes)

-- The entry of which this is kept, its data among these bytes.
abbrev pub entry_kept : List ℕ → Kept → Entry
entry_kept bytes (kept.Bus event answer) = Bus event answer
entry_kept bytes (kept.Linked n) = Link n Linked
entry_kept bytes (kept.Accepted n peer) = Link n (Accepted peer)
entry_kept bytes (kept.Refused n) = Link n Refused
entry_kept bytes (kept.TimedOut n) = Link n TimedOut
entry_kept bytes (kept.Took n count) = Link n (Took count)
entry_kept bytes (kept.Got n from to) = Link n (Got (piece bytes from to))
entry_kept bytes (kept.Datagram n peer from to) = Link n (Datagram peer (piece bytes from to))
entry_kept bytes (kept.Ended n) = Link n Ended
entry_kept bytes (kept.Shut n) = Link n Shut
entry_kept bytes (kept.Failed n) = Link n Failed
entry_kept bytes (kept.Dropped n) = Link n Dropped

-- What is kept of what a link did, whose data stand at these places.
abbrev pub kept_link : ℕ → LinkEntry → ℕ → ℕ → Kept
kept_link n Linked from to = kept.Linked n
kept_link n (Accepted peer) from to = kept.Accepted n peer
kept_link n Refused from to = kept.Refused n
kept_link n TimedOut from to = kept.TimedOut n
kept_link n (Took count) from to = kept.Took n count
kept_link n (Got bytes) from to = kept.Got n from to
kept_link n (Datagram peer bytes) from to = kept.Datagram n peer from to
kept_link n Ended from to = kept.Ended n
kept_link n Shut from to = kept.Shut n
kept_link n Failed from to = kept.Failed n
kept_link n Dropped from to = kept.Dropped n

-- The data lie within so many bytes.
abbrev pub IsWithin : ℕ → Kept → Type 0
IsWithin count (kept.Got n from to) = (from ≤ to) × (to ≤ count)
IsWithin count (kept.Datagram n peer from to) = (from ≤ to) × (to ≤ count)
IsWithin count other = Unit {0}

-- What is kept at a place.
abbrev pub kept_at : List Cell → ℕ → Option Kept
kept_at [] place = None
kept_at (cell ∷ cells) place = if cell.place == place then Some cell.kept else kept_at cells place

-- The entry at a place of which this was found: where nothing is kept, nothing happened.
abbrev pub entry_found : List ℕ → Option Kept → Entry
entry_found bytes None = Rest
entry_found bytes (Some found) = entry_kept bytes found

-- So many events, the newest first.
abbrev pub past_of : List ℕ → List Cell → ℕ → Past
past_of bytes cells zero = []
past_of bytes cells (suc count) = entry_found bytes (kept_at cells count) ∷ past_of bytes cells count

-- What always holds of a history's fields.
pub record IsSound (bytes : List ℕ) (cells : List Cell) (count weight limit : ℕ) : Type 0 where
  pub limited : (1 ≤ limit) × (limit ≤ HIGHEST_LIMIT)
  pub short : count ≤ MOST_EVENTS + MARGIN + 1
  pub rising : AllPairs (λ (a b : Cell). a.place < b.place) cells
  pub below : All (λ (cell : Cell). cell.place < count) cells
  pub within : All (λ (cell : Cell). IsWithin (length bytes) cell.kept) cells
  pub weighed : weight ≡ weight_of (past_of bytes cells count)

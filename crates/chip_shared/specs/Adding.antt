-- What the shared state needs so that an entry is added to it.
use Rattle.std.specs.Prelude.{◌≡◌, ◌≤◌, ◌<◌, ◌+◌, ℕ, true, None, length, Option, MatchOption}
use Rattle.chip_sheet.specs.declared.event.Entry.{Entry}
use Rattle.chip_sheet.specs.declared.event.LinkWhat.{LinkWhat}
use Rattle.chip_sheet.specs.Past.{link_entry}
use Rattle.chip_core.specs.declared.chip.Chip.{Chip}
use Rattle.chip_core.specs.Chip.{Few, stop_kept, fits_here}
use Rattle.chip_hist.specs.declared.limits.TheConstants.{MOST_EVENTS, MARGIN}
use Rattle.chip_hist.specs.Log.{Log, IsLight, entry_data}
use Rattle.chip_shared.specs.Entries.{entry_for}

-- A history has room for an entry, and is not far over its limit.
pub record RoomFor (log : Log) (entry : Entry) : Type 0 where
  pub event : 0 < log.spare_events
  pub bytes : length (entry_data entry) ≤ log.spare_bytes
  pub light : IsLight log
  pub short : length log.past ≤ MOST_EVENTS + MARGIN

-- What the link of socket n did may be added to a chip that keeps no stop, and to its history.
pub record IsReady (chip : Chip) (log : Log) (n : ℕ) (what : Option LinkWhat) : Type 0 where
  pub socket : n < 8
  pub few : Few chip
  pub unstopped : stop_kept chip ≡ None
  pub fits : MatchOption what (Unit {0}) (λ w. fits_here chip n (link_entry w) ≡ true)
  pub adds : RoomFor log (entry_for n what)

-- The chip, its history and its links together, as contracts see them.
use Rattle.std.specs.Prelude.{◌≡◌, ℕ, ◌≤◌, Option}
use Rattle.chip_sheet.specs.declared.stop.ChipStop.{ChipStop}
use Rattle.chip_sheet.specs.Streams.{Starts}
use Rattle.chip_hist.specs.Log.{Log}

pub record State (L : Type 0) : Type 0 where
  -- where the positions of connections begin
  pub starts : Starts
  -- what happened, and the room for more of it
  pub log : Log
  -- the stop that was answered, if one was
  pub stopped : Option ChipStop
  pub links : L
  -- how many link calls were made
  pub calls : ℕ

-- Nothing that matters has changed: at most there is more room.
pub record Keeps {L : Type 0} (old new : State L) : Type 0 where
  pub starts : new.starts ≡ old.starts
  pub past : new.log.past ≡ old.log.past
  pub limit : new.log.limit ≡ old.log.limit
  pub links : new.links ≡ old.links
  pub calls : new.calls ≡ old.calls
  pub events : old.log.spare_events ≤ new.log.spare_events
  pub bytes : old.log.spare_bytes ≤ new.log.spare_bytes

-- Where causes come from.
use Rattle.std.specs.Prelude.{◌≡◌, ℕ, zero, suc, ◌∷◌, length, Option, Some, false}
use Rattle.board_bus.specs.declared.event.BusEvent.{BusEvent}
use Rattle.chip_sheet.specs.declared.event.Entry.TheVariants.{Rest}
use Rattle.chip_sheet.specs.Past.{Past}
use Rattle.chip_sheet.specs.Stops.{stop}
use Rattle.chip_sheet.specs.Streams.{Starts}
use Rattle.chip_sheet.specs.declared.stop.ChipStop.{ChipStop}
use Rattle.chip_lock.specs.declared.over.Found.{Found}
use Rattle.chip_lock.specs.declared.over.Over.{Over}
use Rattle.chip_lock.specs.declared.over.Over.TheVariants.{Stopped, TraceFull, NoMemory, PollFault, Finished}
use Rattle.chip_lock.specs.Standing.{is_full_at}

-- A past with so many turns behind it in which nothing happened.
abbrev pub rested : ℕ → Past → Past
rested zero past = past
rested (suc n) past = Rest ∷ rested n past

-- The event has this stop after this past, at which a history that is meant to hold so much was not full.
pub record StopsHere (starts : Starts) (limit : ℕ) (past : Past) (e : BusEvent) (s : ChipStop) : Type 0 where
  pub room : is_full_at limit past ≡ false
  pub stops : stop starts past e ≡ Some s

-- The event has this stop after all that happened before its place, where the history was not full; from there on nothing
-- happened, one turn at least.
pub record IsFound (starts : Starts) (limit : ℕ) (past : Past) (f : Found) : Type 0 where
  pub before : Past
  pub more : ℕ
  pub place : length before ≡ f.place
  pub here : StopsHere starts limit before f.event f.stop
  pub since : past ≡ rested (suc more) before

-- What is named as found was found.
abbrev pub WereFound : Starts → ℕ → Past → Option Found → Type 0
WereFound starts limit past found = (f : Found) → found ≡ Some f → IsFound starts limit past f

-- What is named as found was found, and is the cause.
abbrev pub FoundIn : Starts → ℕ → Past → Option Over → Option Found → Type 0
FoundIn starts limit past cause found = (f : Found) → found ≡ Some f → IsFound starts limit past f × (cause ≡ Some (Stopped f.stop))

-- One who found this and gave that is the origin of the cause. A full history and want of memory are nobody's.
abbrev pub Owns : Over → Option Found → Option Over → Type 0
Owns (Stopped s) found gave = (f : Found) × (found ≡ Some f) × (f.stop ≡ s)
Owns TraceFull found gave = Unit {0}
Owns NoMemory found gave = Unit {0}
Owns PollFault found gave = gave ≡ Some PollFault
Owns Finished found gave = gave ≡ Some Finished

-- A cause that is named is the one that is kept.
abbrev pub Names : Option Over → Option Over → Type 0
Names cause named = (c : Over) → named ≡ Some c → cause ≡ Some c

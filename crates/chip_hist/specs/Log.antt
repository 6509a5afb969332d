-- A history as contracts see it, and what it weighs.
use Rattle.std.specs.Prelude.{ℕ, ◌+◌, ◌-◌, ◌/◌, ◌≤◌, List, [], ◌∷◌, length, Bool, ◌||◌, nat_le}
use Rattle.chip_sheet.specs.declared.event.LinkEntry.{LinkEntry}
use Rattle.chip_sheet.specs.declared.event.LinkEntry.TheVariants.{Got, Datagram}
use Rattle.chip_sheet.specs.declared.event.Entry.{Entry}
use Rattle.chip_sheet.specs.declared.event.Entry.TheVariants.{Link, Rest}
use Rattle.chip_sheet.specs.Past.{Past}
use Rattle.chip_hist.specs.declared.limits.TheConstants.{MOST_EVENTS, MARGIN, BYTES_A_UNIT}

pub record Log : Type 0 where
  -- what happened, the newest first
  pub past : Past
  -- how many events it takes without memory
  pub spare_events : ℕ
  -- how many bytes of data it takes without memory
  pub spare_bytes : ℕ
  -- the weight that it is meant to hold
  pub limit : ℕ

-- The data of what a link did.
abbrev pub link_data : LinkEntry → List ℕ
link_data (Got bytes) = bytes
link_data (Datagram from bytes) = bytes
link_data what = []

-- The data of an entry.
abbrev pub entry_data : Entry → List ℕ
entry_data (Link n what) = link_data what
entry_data entry = []

-- How many pieces of 32 bytes so many bytes begin.
abbrev pub begun : ℕ → ℕ
begun count = (count + (BYTES_A_UNIT - 1)) / BYTES_A_UNIT

-- An entry weighs 1, and 1 more for each 32 bytes of data begun; a turn in which nothing happened weighs nothing. Above this crate the
-- weight is known through what proofs/Weight.antt says of it.
abbrev pub entry_weight : Entry → ℕ
entry_weight Rest = 0
entry_weight entry = begun (length (entry_data entry)) + 1

-- What a past weighs.
abbrev pub weight_of : Past → ℕ
weight_of [] = 0
weight_of (entry ∷ past) = entry_weight entry + weight_of past

-- What an entry adds to the weight at most.
abbrev pub most_weight : Entry → ℕ
most_weight entry = begun (length (entry_data entry)) + 1

-- A history that is meant to hold so much takes no more events of a run.
abbrev pub is_full_at : ℕ → Past → Bool
is_full_at limit past = nat_le limit (weight_of past) || nat_le MOST_EVENTS (length past)

abbrev pub is_full : Log → Bool
is_full log = is_full_at log.limit log.past

-- A history went past its limit by so many units at most.
abbrev pub IsLightBy : ℕ → Log → Type 0
IsLightBy units log = weight_of log.past ≤ log.limit + units

-- A history may be pushed to: it went past its limit no further than a step that began below it may.
abbrev pub IsLight : Log → Type 0
IsLight log = IsLightBy MARGIN log

-- Events that add so many units to the weight at most may come yet, and each of them adds one or more; neither the weight nor the number
-- of events passes this limit.
pub record HasRoom (past : Past) (units limit : ℕ) : Type 0 where
  pub weight : weight_of past + units ≤ limit
  pub few : length past + units ≤ limit

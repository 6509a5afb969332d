-- What a core asks of its data bus.
use Rattle.std.specs.Prelude.{ℕ, ◌<◌, ◌≤◌, ◌⊎◌}
use Rattle.avr_core.specs.Ask.{Give, Call}
use Rattle.avr_core.specs.Calls.{DataCall, Read, Write, WriteBit, AnswerTo}
use Rattle.avr_core.specs.Steps.{Asked}

-- The data addresses that are asked for: none of the register file, which ends at 001F, none of SPL, SPH and SREG, 005D to 005F,
-- and none past 08FF.
pub record IsAsked (at : ℕ) : Type 0 where
  pub from : 32 ≤ at
  pub to : at ≤ 2303
  pub other : (at < 93) ⊎ (95 < at)

-- Of a call: its address is such a one, and of an I/O place and its bit there are 32 and 8.
abbrev pub IsWithin : DataCall → Type 0
IsWithin (Read at) = IsAsked at
IsWithin (Write at v) = IsAsked at
IsWithin (WriteBit io bit set) = (io < 32) × (bit < 8)

-- Every call of a tree, whatever the answers.
abbrev pub AllWithin : Asked → Type 0
AllWithin (Give s) = Unit {0}
AllWithin (Call c next) = IsWithin c × ((answer : AnswerTo c) → AllWithin (next answer))

-- A step over the bytes of the data space alone.
use Rattle.std.specs.Prelude.{◌≡◌, ℕ, List, Option, Some, None, Ok, Err, if◌then◌else◌, slice_index, slice_set, replicate}
use Rattle.avr_core.specs.Ask.{Give, Call}
use Rattle.avr_core.specs.Calls.{DataCall, Read, Write, WriteBit, AnswerTo}
use Rattle.avr_core.specs.Stack.{is_sram}
use Rattle.avr_core.specs.Steps.{Asked, Stepped, ran}
use Rattle.avr_core.specs.declared.bus.DataEnd.TheVariants as ends
use Rattle.avr_core.specs.declared.cpu.Core.{Core}

-- So many bytes of 00.
unfoldable pub zeros : ℕ → List ℕ
zeros n = replicate n 0

-- What the memory answers, as a data bus, and what it holds then: a byte of SRAM is read and written, and any other place is not
-- its own, for which it says that the bus is over.
abbrev pub Held : List ℕ → (c : DataCall) → AnswerTo c → List ℕ → Type 0
Held memory (Read at) answer left =
    (answer ≡ (if is_sram at then Ok (slice_index memory at) else Err ends.BusOver)) × (left ≡ memory)
Held memory (Write at v) answer left =
    (answer ≡ (if is_sram at then Ok tt else Err ends.BusOver)) × (left ≡ (if is_sram at then slice_set memory at v else memory))
Held memory (WriteBit io bit set) answer left = (answer ≡ Err ends.BusOver) × (left ≡ memory)

-- How a step went over a memory, and the memory after it.
pub record Served : Type 0 where
  pub step : Stepped
  pub memory : List ℕ

abbrev pub served : Stepped → List ℕ → Served
served step memory = record { step = step; memory = memory }

-- What a step comes to over the bytes of the data space, where each call that it makes is one of SRAM.
abbrev pub over_memory : Asked → List ℕ → Option Served
over_memory (Give s) memory = Some (served s memory)
over_memory (Call (Read at) go) memory = if is_sram at then over_memory (go (Ok (slice_index memory at))) memory else None
over_memory (Call (Write at v) go) memory = if is_sram at then over_memory (go (Ok tt)) (slice_set memory at v) else None
over_memory (Call (WriteBit io bit set) go) memory = None

-- An instruction ran so over a memory, in so many cycles; with None nothing was done.
abbrev pub RanOver : Option Served → Option ℕ → Core → Core → List ℕ → List ℕ → Type 0
RanOver comes None before after memory left = (after ≡ before) × (left ≡ memory)
RanOver comes (Some cycles) before after memory left = comes ≡ Some (served (ran cycles after) left)

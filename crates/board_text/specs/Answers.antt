-- The text of answers.
use Rattle.std.specs.Prelude.{ℕ, ◌+◌, ◌/◌, ◌%◌, nat_lt, List, [], ◌∷◌, ◌++◌, Option, None, Some, if◌then◌else◌}
use Rattle.std.specs.List.{filter_map, join_with_byte}
use Rattle.board_bus.specs.declared.event.BusAnswer.{BusAnswer}
use Rattle.board_bus.specs.declared.event.BusAnswer.TheVariants.{Done, Out, Level}

-- A hexadecimal digit, in upper case: 48 is 0, and 65 is A.
abbrev pub digit : ℕ → ℕ
digit n = if nat_lt n 10 then 48 + n else 55 + n

-- What is printed of an answer: a byte as two digits, the level of the interrupt line as 1 or 0, of a change of the select
-- line nothing.
abbrev pub printed : BusAnswer → Option (List ℕ)
printed Done = None
printed (Out v) = Some (digit (v / 16) ∷ digit (v % 16) ∷ [])
printed (Level high) = Some ((if high then 49 else 48) ∷ [])

-- What is printed of answers, with one space between, 32.
abbrev pub joined : List BusAnswer → List ℕ
joined answers = join_with_byte 32 (filter_map printed answers)

-- A line feed, 10, behind what stands on a line, where something does.
abbrev pub with_end : List ℕ → List ℕ
with_end [] = []
with_end (b ∷ text) = (b ∷ text) ++ 10 ∷ []

-- The line that the answers of a script's line make.
abbrev pub line_text : List BusAnswer → List ℕ
line_text answers = with_end (joined answers)

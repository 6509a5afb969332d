-- How many words an instruction takes.
use Rattle.std.specs.Prelude.{ℕ, ◌==◌, Bool, List, filter, if◌then◌else◌}
use Rattle.std.specs.List.{list_any}
use Rattle.avr_table.specs.Row.{Row, fits}
use Rattle.avr_table.specs.Rows.{rows}
use Rattle.avr_table.specs.declared.instr.Instr.{Instr}
use Rattle.avr_table.specs.declared.instr.Instr.TheVariants as instrs
use Rattle.avr_table.specs.declared.instr.Moves.TheVariants.{Lds, Sts}
use Rattle.avr_table.specs.declared.instr.Jumps.TheVariants.{Jmp, Call}

-- Two words for lds, sts, jmp and call, one for every other instruction (their sections of the manual show
-- 32-bit opcodes).
abbrev pub words_of : Instr → ℕ
words_of (instrs.Moves (Lds d k)) = 2
words_of (instrs.Moves (Sts d k)) = 2
words_of (instrs.Jumps (Jmp k)) = 2
words_of (instrs.Jumps (Call k)) = 2
words_of _ = 1

-- The rows of lds, sts, jmp and call: those whose instruction takes two words.
abbrev pub long_rows : List Row
long_rows = filter (λ (row : Row). row.words == 2) rows

-- The word fits one of these rows.
abbrev pub fits_long_by : List Row → ℕ → Bool
fits_long_by rows word = list_any (λ row. fits row word) rows

-- The word fits lds, sts, jmp or call.
unfoldable pub fits_long : ℕ → Bool
fits_long word = fits_long_by long_rows word

-- How many words the instruction takes that begins with this word.
abbrev pub words_at : ℕ → ℕ
words_at word = if fits_long word then 2 else 1

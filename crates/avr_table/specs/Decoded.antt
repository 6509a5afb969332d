-- What a word says by the instruction table.
use Rattle.std.specs.Prelude.{◌≡◌, ℕ, ◌/◌, ◌==◌, List, [], ◌∷◌, Bool, true, false, IsTrue, if◌then◌else◌, Result, Ok, Err, slice_get, Some, ◌↔◌}
use Rattle.avr_table.specs.Row.{Row, fits, instr_of}
use Rattle.avr_table.specs.Rows.{rows}
use Rattle.avr_table.specs.declared.instr.Instr.{Instr}
use Rattle.avr_table.specs.declared.instr.Moves.{Moves}
use Rattle.avr_table.specs.declared.instr.Pointer.{Pointer}
use Rattle.avr_table.specs.declared.fault.DecodeFault.{DecodeFault}
use Rattle.avr_table.specs.declared.instr.Instr.TheVariants as instrs
use Rattle.avr_table.specs.declared.instr.Moves.TheVariants.{Ld, St, LpmZInc}
use Rattle.avr_table.specs.declared.instr.Pointer.TheVariants.{ZInc, ZDec, YInc, YDec, X, XInc, XDec}
use Rattle.avr_table.specs.declared.fault.DecodeFault.TheVariants.{Illegal, Undefined}

-- The pointer changes, and this register is one of its own two: r31:r30 for Z, r29:r28 for Y, r27:r26 for X.
abbrev pub is_own : Pointer → ℕ → Bool
is_own ZInc d = d / 2 == 15
is_own ZDec d = d / 2 == 15
is_own YInc d = d / 2 == 14
is_own YDec d = d / 2 == 14
is_own X d = false
is_own XInc d = d / 2 == 13
is_own XDec d = d / 2 == 13

-- The manual calls the result undefined: LD and ST with a pointer that changes and a register of its own
-- (LD, ST), and LPM Rd, Z+ with r30 or r31 (LPM).
abbrev pub is_undefined_move : Moves → Bool
is_undefined_move (Ld d p) = is_own p d
is_undefined_move (St d p) = is_own p d
is_undefined_move (LpmZInc d) = d / 2 == 15
is_undefined_move _ = false

-- The same of any instruction: only moves can be undefined.
abbrev pub is_undefined : Instr → Bool
is_undefined (instrs.Moves m) = is_undefined_move m
is_undefined _ = false

-- The instruction, unless it is undefined.
abbrev pub checked : Instr → Result Instr DecodeFault
checked i = if is_undefined i then Err Undefined else Ok i

-- What a word says by a list of rows, before this next word: the instruction of the row that it fits, and
-- Illegal where it fits none. It looks at the rows in order, but `OnlyOneRow` says that the order is nothing.
abbrev pub decoded_by : List Row → ℕ → ℕ → Result Instr DecodeFault
decoded_by [] word next = Err Illegal
decoded_by (row ∷ rows) word next =
    elim (fits row word) [ true ↦ checked (instr_of row word next) | false ↦ decoded_by rows word next ]

-- What a word says by the instruction table, before this next word.
unfoldable pub decoded : ℕ → ℕ → Result Instr DecodeFault
decoded word next = decoded_by rows word next

-- No word fits two rows of the list.
abbrev pub OnlyOneRow : List Row → Type 0
OnlyOneRow rows =
    (i j : ℕ) (one other : Row) (word : ℕ) → slice_get rows i ≡ Some one → slice_get rows j ≡ Some other
    → IsTrue (fits one word) → IsTrue (fits other word) → i ≡ j

-- A word that fits a row says this row's instruction, or Undefined.
abbrev pub SaysItsRow : List Row → Type 0
SaysItsRow rows =
    (i : ℕ) (row : Row) (word next : ℕ) → slice_get rows i ≡ Some row → IsTrue (fits row word)
    → decoded word next ≡ checked (instr_of row word next)

-- A word is Illegal exactly where it fits no row.
abbrev pub IllegalFitsNone : List Row → Type 0
IllegalFitsNone rows =
    (word next : ℕ) → (decoded word next ≡ Err Illegal)
    ↔ ((i : ℕ) (row : Row) → slice_get rows i ≡ Some row → fits row word ≡ false)

-- How a row of the instruction table is read. The opcodes are written as the AVR Instruction Set Manual
-- prints them, highest bit first: 0 and 1 are fixed bits, a letter is a bit of the field of that name.
use Rattle.std.specs.Prelude.{ℕ, ℤ, pos, negsuc, ◌+◌, ◌-◌, ◌*◌, ◌/◌, ◌%◌, ◌^◌, ◌==◌, List, [], ◌∷◌, Bool, ◌||◌, if◌then◌else◌, nat_lt, bit_and}
use Rattle.avr_table.specs.declared.instr.Instr.{Instr}

-- The letters of the opcodes, by their codes.
abbrev pub d : ℕ
d = 100

abbrev pub r : ℕ
r = 114

abbrev pub k : ℕ
k = 107

abbrev pub q : ℕ
q = 113

abbrev pub s : ℕ
s = 115

abbrev pub b : ℕ
b = 98

abbrev pub A : ℕ
A = 65

abbrev pub K : ℕ
K = 75

-- What an opcode has beside letters: the two fixed bits, and a blank, which is no bit.
abbrev pub fixed_0 : ℕ
fixed_0 = 48

abbrev pub fixed_1 : ℕ
fixed_1 = 49

abbrev pub blank : ℕ
blank = 32

-- The fixed bits of an opcode as a mask: 1 where a 0 or a 1 stands. The second argument is the number
-- that the places before make.
abbrev pub mask_of : List ℕ → ℕ → ℕ
mask_of [] n = n
mask_of (c ∷ cs) n = mask_of cs (if c == blank then n else n * 2 + (if c == fixed_0 || c == fixed_1 then 1 else 0))

-- What stands at the fixed bits of an opcode, with 0 at all other bits.
abbrev pub bits_of : List ℕ → ℕ → ℕ
bits_of [] n = n
bits_of (c ∷ cs) n = bits_of cs (if c == blank then n else n * 2 + (if c == fixed_1 then 1 else 0))

-- The field of one letter in a word: the number that the word's bits make at the places of this letter,
-- the highest first. The word comes in with its bits still to be read on top.
abbrev pub field : List ℕ → ℕ → ℕ → ℕ → ℕ
field [] letter word n = n
field (c ∷ cs) letter word n =
    field cs letter (if c == blank then word else word * 2 % 65536) (if c == letter then n * 2 + word / 32768 else n)

-- A field of so many bits, read as a signed number in two's complement.
abbrev pub signed : ℕ → ℕ → ℤ
signed width v = if nat_lt v (2 ^ (width - 1)) then pos v else negsuc (2 ^ width - 1 - v)

-- One row of the table: its opcode, the mask and the bits that follow from it, how many words the
-- instruction takes, and the instruction, from the fields by their letters and from the next word.
pub record Row : Type 0 where
  pub pattern : List ℕ
  pub mask : ℕ
  pub bits : ℕ
  pub words : ℕ
  pub instr : (ℕ → ℕ) → ℕ → Instr

-- An instruction of one word.
abbrev pub row : List ℕ → ((ℕ → ℕ) → ℕ → Instr) → Row
row pattern instr = record { pattern = pattern; mask = mask_of pattern 0; bits = bits_of pattern 0; words = 1; instr = instr }

-- An instruction of two words. The opcode is that of the first; the second is a number.
abbrev pub row_with_next : List ℕ → ((ℕ → ℕ) → ℕ → Instr) → Row
row_with_next pattern instr =
    record { pattern = pattern; mask = mask_of pattern 0; bits = bits_of pattern 0; words = 2; instr = instr }

-- A word fits a row where it agrees with each fixed bit of the opcode.
abbrev pub fits : Row → ℕ → Bool
fits row word = bit_and row.mask word == row.bits

-- The row's instruction, with the fields of this word and this next word.
abbrev pub instr_of : Row → ℕ → ℕ → Instr
instr_of row word next = row.instr (λ letter. field row.pattern letter word 0) next

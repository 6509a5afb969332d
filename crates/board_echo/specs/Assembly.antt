-- Assembler text of instructions of one word each: lines, some with a label, the words that they say, and an image of them.
use Prim.Native.String.{String as Text}
use Rattle.std.specs.Prelude.{◌≡◌, ℕ, ◌+◌, ◌-◌, ◌*◌, ◌/◌, ◌%◌, ℤ, pos, ◌-ℤ◌, List, [], ◌∷◌, ◌++◌, codes, map, length, flat_map, bytes_eq, true, false, Ok}
use Rattle.flash.specs.Image.{filled}
use Rattle.avr_table.specs.Decoded.{decoded}
use Rattle.avr_table.specs.declared.instr.Instr.{Instr}
use Rattle.avr_table.specs.declared.instr.Instr.TheVariants as instrs
use Rattle.avr_table.specs.declared.instr.Sums.TheVariants.{Add, Adc, Cpi, Dec}
use Rattle.avr_table.specs.declared.instr.Logic.TheVariants.{Eor, Andi}
use Rattle.avr_table.specs.declared.instr.Moves.TheVariants.{Mov, Ld, St, In, Out, Ldi}
use Rattle.avr_table.specs.declared.instr.Jumps.TheVariants.{Ret, Rjmp, Rcall, Brbs, Brbc, Sbrs}
use Rattle.avr_table.specs.declared.instr.Bits.TheVariants.{Break, Cbi, Sbi}
use Rattle.avr_table.specs.declared.instr.Pointer.TheVariants.{XInc}
use Rattle.avr_enc.specs.Words.{sum_word, product_word, logic_word, move_word, jump_word, bits_word}

-- What a line says at one place: an instruction, or one that goes to a label, by the words between.
pub data Step : Type 0 where
  Plain : Instr → Step
  To : List ℕ → (ℤ → Instr) → Step

-- A line: its label, which may be empty, and what it says.
pub record Line : Type 0 where
  pub label : List ℕ
  pub steps : List Step

abbrev pub line : Text → List Step → Line
line label steps = record { label = codes label; steps = steps }

-- The instructions by their names. X+ is the pointer r27:r26, which then rises by one.
abbrev pub add : ℕ → ℕ → Step
add d r = Plain (instrs.Sums (Add d r))

abbrev pub adc : ℕ → ℕ → Step
adc d r = Plain (instrs.Sums (Adc d r))

abbrev pub cpi : ℕ → ℕ → Step
cpi d k = Plain (instrs.Sums (Cpi d k))

abbrev pub dec : ℕ → Step
dec d = Plain (instrs.Sums (Dec d))

abbrev pub eor : ℕ → ℕ → Step
eor d r = Plain (instrs.Logic (Eor d r))

abbrev pub andi : ℕ → ℕ → Step
andi d k = Plain (instrs.Logic (Andi d k))

abbrev pub mov : ℕ → ℕ → Step
mov d r = Plain (instrs.Moves (Mov d r))

abbrev pub ldi : ℕ → ℕ → Step
ldi d k = Plain (instrs.Moves (Ldi d k))

abbrev pub ld_X+ : ℕ → Step
ld_X+ d = Plain (instrs.Moves (Ld d XInc))

abbrev pub st_X+ : ℕ → Step
st_X+ d = Plain (instrs.Moves (St d XInc))

abbrev pub in_ : ℕ → ℕ → Step
in_ d a = Plain (instrs.Moves (In d a))

abbrev pub out : ℕ → ℕ → Step
out a d = Plain (instrs.Moves (Out d a))

abbrev pub cbi : ℕ → ℕ → Step
cbi a b = Plain (instrs.Bits (Cbi a b))

abbrev pub sbi : ℕ → ℕ → Step
sbi a b = Plain (instrs.Bits (Sbi a b))

abbrev pub break : Step
break = Plain (instrs.Bits Break)

abbrev pub ret : Step
ret = Plain (instrs.Jumps Ret)

abbrev pub sbrs : ℕ → ℕ → Step
sbrs d b = Plain (instrs.Jumps (Sbrs d b))

abbrev pub rcall : Text → Step
rcall label = To (codes label) (λ k. instrs.Jumps (Rcall k))

abbrev pub rjmp : Text → Step
rjmp label = To (codes label) (λ k. instrs.Jumps (Rjmp k))

-- Branches by the bit Z of SREG, bit 1: where it is set, and where it is clear.
abbrev pub breq : Text → Step
breq label = To (codes label) (λ k. instrs.Jumps (Brbs 1 k))

abbrev pub brne : Text → Step
brne label = To (codes label) (λ k. instrs.Jumps (Brbc 1 k))

-- All that lines say, in their order.
abbrev pub steps_of : List Line → List Step
steps_of lines = flat_map (λ (l : Line). l.steps) lines

-- The place of a label, where the first of the lines stands at `at`.
abbrev pub place_from : ℕ → List ℕ → List Line → ℕ
place_from at label [] = at
place_from at label (l ∷ lines) =
    elim (bytes_eq l.label label) [ true ↦ at | false ↦ place_from (at + length l.steps) label lines ]

abbrev pub place_of : List Line → List ℕ → ℕ
place_of lines label = place_from 0 label lines

-- How many words a target is on from the instruction behind the one at `at`.
abbrev pub relative : ℕ → ℕ → ℤ
relative target at = pos target -ℤ pos (at + 1)

-- The instruction at a place, by the places of the labels.
abbrev pub instr_at : (List ℕ → ℕ) → ℕ → Step → Instr
instr_at places at (Plain instr) = instr
instr_at places at (To label goes) = goes (relative (places label) at)

-- The instructions from a place on.
abbrev pub instrs_from : (List ℕ → ℕ) → ℕ → List Step → List Instr
instrs_from places at [] = []
instrs_from places at (step ∷ steps) = instr_at places at step ∷ instrs_from places (at + 1) steps

-- The instructions of lines, of which the first stands at word 0.
abbrev pub instrs_of : List Line → List Instr
instrs_of lines = instrs_from (place_of lines) 0 (steps_of lines)

-- The first word of an instruction, and the only one of those above.
abbrev pub word : Instr → ℕ
word (instrs.Sums s) = sum_word s
word (instrs.Products p) = product_word p
word (instrs.Logic l) = logic_word l
word (instrs.Moves m) = move_word m
word (instrs.Jumps j) = jump_word j
word (instrs.Bits b) = bits_word b

-- The words from a place on.
abbrev pub words_from : (List ℕ → ℕ) → ℕ → List Step → List ℕ
words_from places at steps = map word (instrs_from places at steps)

-- The words of lines.
abbrev pub words_of : List Line → List ℕ
words_of lines = words_from (place_of lines) 0 (steps_of lines)

-- The bytes of words: the low byte of each first.
abbrev pub bytes_of : List ℕ → List ℕ
bytes_of [] = []
bytes_of (w ∷ ws) = w % 256 ∷ w / 256 ∷ bytes_of ws

-- An image of words from word 0 on; all behind them is erased.
abbrev pub image_of : List ℕ → List ℕ
image_of words = bytes_of words ++ filled (32768 - 2 * length words) 255

-- The words are decoded to the instructions of lines, whatever follows each of them.
abbrev pub AreDecoded : List ℕ → List Line → Type 0
AreDecoded words lines = (next : ℕ) → map (λ w. decoded w next) words ≡ map Ok (instrs_of lines)

-- The text of an instruction, as an assembler of the manual's mnemonics reads it. The spelling of numbers is
-- this profile's own: registers, bits and displacements in decimal, constants and I/O places with two
-- hexadecimal digits, data addresses with four, targets with six, relative numbers in decimal with their sign.
use Rattle.std.specs.Prelude.{ℕ, ℤ, pos, negsuc, ◌+◌, ◌/◌, ◌%◌, List, [], ◌∷◌, ◌++◌, codes, nat_lt, if◌then◌else◌}
use Rattle.std.specs.Fmt.{decimal}
use Rattle.avr_table.specs.declared.instr.Sums.{Sums}
use Rattle.avr_table.specs.declared.instr.Products.{Products}
use Rattle.avr_table.specs.declared.instr.Logic.{Logic}
use Rattle.avr_table.specs.declared.instr.Moves.{Moves}
use Rattle.avr_table.specs.declared.instr.Jumps.{Jumps}
use Rattle.avr_table.specs.declared.instr.Bits.{Bits}
use Rattle.avr_table.specs.declared.instr.Pointer.{Pointer}
use Rattle.avr_table.specs.declared.instr.Instr.{Instr}
use Rattle.avr_table.specs.declared.instr.Instr.TheVariants as instrs
use Rattle.avr_table.specs.declared.instr.Sums.TheVariants.{Cpc, Sbc, Add, Cp, Sub, Adc, Cpi, Sbci, Subi, Neg, Inc, Dec, Adiw, Sbiw}
use Rattle.avr_table.specs.declared.instr.Products.TheVariants.{Muls, Mulsu, Fmul, Fmuls, Fmulsu, Mul}
use Rattle.avr_table.specs.declared.instr.Logic.TheVariants.{And, Eor, Or, Ori, Andi, Com, Swap, Asr, Lsr, Ror}
use Rattle.avr_table.specs.declared.instr.Moves.TheVariants.{Movw, Mov, LddZ, LddY, StdZ, StdY, Lds, Ld, LpmZ, LpmZInc, Pop, Sts, St, Push, Lpm, In, Out, Ldi}
use Rattle.avr_table.specs.declared.instr.Jumps.TheVariants.{Cpse, Ret, Reti, Ijmp, Icall, Jmp, Call, Sbic, Sbis, Rjmp, Rcall, Brbs, Brbc, Sbrc, Sbrs}
use Rattle.avr_table.specs.declared.instr.Bits.TheVariants.{Nop, Bset, Bclr, Sleep, Break, Wdr, Spm, Cbi, Sbi, Bld, Bst}
use Rattle.avr_table.specs.declared.instr.Pointer.TheVariants.{ZInc, ZDec, YInc, YDec, X, XInc, XDec}

-- A register by its number in decimal.
abbrev pub register : ℕ → List ℕ
register d = codes "r" ++ decimal d

-- A hexadecimal digit, in upper case.
abbrev pub hex_digit : ℕ → ℕ
hex_digit n = if nat_lt n 10 then 48 + n else 55 + n

-- A byte as two hexadecimal digits.
abbrev pub hex_byte : ℕ → List ℕ
hex_byte n = hex_digit (n / 16) ∷ hex_digit (n % 16) ∷ []

-- A constant of a byte, or an I/O place.
abbrev pub constant : ℕ → List ℕ
constant k = codes "0x" ++ hex_byte k

-- A data address, its high byte first.
abbrev pub address : ℕ → List ℕ
address k = codes "0x" ++ hex_byte (k / 256) ++ hex_byte (k % 256)

-- The target of a jump or call, by its three lower bytes.
abbrev pub target : ℕ → List ℕ
target k = codes "0x" ++ hex_byte (k / 65536 % 256) ++ hex_byte (k / 256 % 256) ++ hex_byte (k % 256)

-- A relative number of words: its sign, and how far it goes.
abbrev pub relative : ℤ → List ℕ
relative (pos n) = codes "+" ++ decimal n
relative (negsuc n) = codes "-" ++ decimal (n + 1)

-- The pointer of a load or store.
abbrev pub pointer : Pointer → List ℕ
pointer ZInc = codes "Z+"
pointer ZDec = codes "-Z"
pointer YInc = codes "Y+"
pointer YDec = codes "-Y"
pointer X = codes "X"
pointer XInc = codes "X+"
pointer XDec = codes "-X"

-- A mnemonic with one operand, and with two.
abbrev pub with_one : List ℕ → List ℕ → List ℕ
with_one name first = name ++ codes " " ++ first

abbrev pub with_two : List ℕ → List ℕ → List ℕ → List ℕ
with_two name first second = name ++ codes " " ++ first ++ codes ", " ++ second

-- Sums, differences and comparisons.
abbrev pub sum_text : Sums → List ℕ
sum_text (Cpc d r) = with_two (codes "cpc") (register d) (register r)
sum_text (Sbc d r) = with_two (codes "sbc") (register d) (register r)
sum_text (Add d r) = with_two (codes "add") (register d) (register r)
sum_text (Cp d r) = with_two (codes "cp") (register d) (register r)
sum_text (Sub d r) = with_two (codes "sub") (register d) (register r)
sum_text (Adc d r) = with_two (codes "adc") (register d) (register r)
sum_text (Cpi d k) = with_two (codes "cpi") (register d) (constant k)
sum_text (Sbci d k) = with_two (codes "sbci") (register d) (constant k)
sum_text (Subi d k) = with_two (codes "subi") (register d) (constant k)
sum_text (Neg d) = with_one (codes "neg") (register d)
sum_text (Inc d) = with_one (codes "inc") (register d)
sum_text (Dec d) = with_one (codes "dec") (register d)
sum_text (Adiw d k) = with_two (codes "adiw") (register d) (constant k)
sum_text (Sbiw d k) = with_two (codes "sbiw") (register d) (constant k)

-- Products.
abbrev pub product_text : Products → List ℕ
product_text (Muls d r) = with_two (codes "muls") (register d) (register r)
product_text (Mulsu d r) = with_two (codes "mulsu") (register d) (register r)
product_text (Fmul d r) = with_two (codes "fmul") (register d) (register r)
product_text (Fmuls d r) = with_two (codes "fmuls") (register d) (register r)
product_text (Fmulsu d r) = with_two (codes "fmulsu") (register d) (register r)
product_text (Mul d r) = with_two (codes "mul") (register d) (register r)

-- Logic and shifts.
abbrev pub logic_text : Logic → List ℕ
logic_text (And d r) = with_two (codes "and") (register d) (register r)
logic_text (Eor d r) = with_two (codes "eor") (register d) (register r)
logic_text (Or d r) = with_two (codes "or") (register d) (register r)
logic_text (Ori d k) = with_two (codes "ori") (register d) (constant k)
logic_text (Andi d k) = with_two (codes "andi") (register d) (constant k)
logic_text (Com d) = with_one (codes "com") (register d)
logic_text (Swap d) = with_one (codes "swap") (register d)
logic_text (Asr d) = with_one (codes "asr") (register d)
logic_text (Lsr d) = with_one (codes "lsr") (register d)
logic_text (Ror d) = with_one (codes "ror") (register d)

-- Moves.
abbrev pub move_text : Moves → List ℕ
move_text (Movw d r) = with_two (codes "movw") (register d) (register r)
move_text (Mov d r) = with_two (codes "mov") (register d) (register r)
move_text (LddZ d q) = with_two (codes "ldd") (register d) (codes "Z+" ++ decimal q)
move_text (LddY d q) = with_two (codes "ldd") (register d) (codes "Y+" ++ decimal q)
move_text (StdZ d q) = with_two (codes "std") (codes "Z+" ++ decimal q) (register d)
move_text (StdY d q) = with_two (codes "std") (codes "Y+" ++ decimal q) (register d)
move_text (Lds d k) = with_two (codes "lds") (register d) (address k)
move_text (Ld d p) = with_two (codes "ld") (register d) (pointer p)
move_text (LpmZ d) = with_two (codes "lpm") (register d) (codes "Z")
move_text (LpmZInc d) = with_two (codes "lpm") (register d) (codes "Z+")
move_text (Pop d) = with_one (codes "pop") (register d)
move_text (Sts d k) = with_two (codes "sts") (address k) (register d)
move_text (St d p) = with_two (codes "st") (pointer p) (register d)
move_text (Push d) = with_one (codes "push") (register d)
move_text Lpm = codes "lpm"
move_text (In d a) = with_two (codes "in") (register d) (constant a)
move_text (Out d a) = with_two (codes "out") (constant a) (register d)
move_text (Ldi d k) = with_two (codes "ldi") (register d) (constant k)

-- Jumps, calls, branches and skips.
abbrev pub jump_text : Jumps → List ℕ
jump_text (Cpse d r) = with_two (codes "cpse") (register d) (register r)
jump_text Ret = codes "ret"
jump_text Reti = codes "reti"
jump_text Ijmp = codes "ijmp"
jump_text Icall = codes "icall"
jump_text (Jmp k) = with_one (codes "jmp") (target k)
jump_text (Call k) = with_one (codes "call") (target k)
jump_text (Sbic a b) = with_two (codes "sbic") (constant a) (decimal b)
jump_text (Sbis a b) = with_two (codes "sbis") (constant a) (decimal b)
jump_text (Rjmp k) = with_one (codes "rjmp") (relative k)
jump_text (Rcall k) = with_one (codes "rcall") (relative k)
jump_text (Brbs s k) = with_two (codes "brbs") (decimal s) (relative k)
jump_text (Brbc s k) = with_two (codes "brbc") (decimal s) (relative k)
jump_text (Sbrc d b) = with_two (codes "sbrc") (register d) (decimal b)
jump_text (Sbrs d b) = with_two (codes "sbrs") (register d) (decimal b)

-- Bits and control.
abbrev pub bits_text : Bits → List ℕ
bits_text Nop = codes "nop"
bits_text (Bset s) = with_one (codes "bset") (decimal s)
bits_text (Bclr s) = with_one (codes "bclr") (decimal s)
bits_text Sleep = codes "sleep"
bits_text Break = codes "break"
bits_text Wdr = codes "wdr"
bits_text Spm = codes "spm"
bits_text (Cbi a b) = with_two (codes "cbi") (constant a) (decimal b)
bits_text (Sbi a b) = with_two (codes "sbi") (constant a) (decimal b)
bits_text (Bld d b) = with_two (codes "bld") (register d) (decimal b)
bits_text (Bst d b) = with_two (codes "bst") (register d) (decimal b)

-- The text of any instruction.
abbrev pub text_of : Instr → List ℕ
text_of (instrs.Sums s) = sum_text s
text_of (instrs.Products p) = product_text p
text_of (instrs.Logic l) = logic_text l
text_of (instrs.Moves m) = move_text m
text_of (instrs.Jumps j) = jump_text j
text_of (instrs.Bits b) = bits_text b

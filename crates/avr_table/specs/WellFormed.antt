-- Instructions that a word can say: each field is in the range that its row's opcode gives it, and the
-- instruction is not undefined.
use Rattle.std.specs.Prelude.{◌≡◌, ℕ, ℤ, pos, negsuc, ◌%◌, ◌^◌, ◌<◌, ◌≤◌, ◌≤ℤ◌, false}
use Rattle.avr_table.specs.Decoded.{is_own}
use Rattle.avr_table.specs.declared.instr.Instr.{Instr}
use Rattle.avr_table.specs.declared.instr.Sums.{Sums}
use Rattle.avr_table.specs.declared.instr.Products.{Products}
use Rattle.avr_table.specs.declared.instr.Logic.{Logic}
use Rattle.avr_table.specs.declared.instr.Moves.{Moves}
use Rattle.avr_table.specs.declared.instr.Jumps.{Jumps}
use Rattle.avr_table.specs.declared.instr.Bits.{Bits}
use Rattle.avr_table.specs.declared.instr.Instr.TheVariants as instrs
use Rattle.avr_table.specs.declared.instr.Sums.TheVariants.{Cpc, Sbc, Add, Cp, Sub, Adc, Cpi, Sbci, Subi, Neg, Inc, Dec, Adiw, Sbiw}
use Rattle.avr_table.specs.declared.instr.Products.TheVariants.{Muls, Mulsu, Fmul, Fmuls, Fmulsu, Mul}
use Rattle.avr_table.specs.declared.instr.Logic.TheVariants.{And, Eor, Or, Ori, Andi, Com, Swap, Asr, Lsr, Ror}
use Rattle.avr_table.specs.declared.instr.Moves.TheVariants.{Movw, Mov, LddZ, LddY, StdZ, StdY, Lds, Ld, LpmZ, LpmZInc, Pop, Sts, St, Push, Lpm, In, Out, Ldi}
use Rattle.avr_table.specs.declared.instr.Jumps.TheVariants.{Cpse, Ret, Reti, Ijmp, Icall, Jmp, Call, Sbic, Sbis, Rjmp, Rcall, Brbs, Brbc, Sbrc, Sbrs}
use Rattle.avr_table.specs.declared.instr.Bits.TheVariants.{Nop, Bset, Bclr, Sleep, Break, Wdr, Spm, Cbi, Sbi, Bld, Bst}

-- Two registers of all 32.
abbrev pub AreRegisters : ℕ → ℕ → Type 0
AreRegisters d r = (d < 32) × (r < 32)

-- A register from r16 on, and a constant of one byte.
abbrev pub IsUpperWithByte : ℕ → ℕ → Type 0
IsUpperWithByte d k = (16 ≤ d) × (d < 32) × (k < 256)

-- One of the pairs that begin at r24, r26, r28 and r30, and a constant of six bits.
abbrev pub IsWidePair : ℕ → ℕ → Type 0
IsWidePair d k = (24 ≤ d) × (d < 32) × (d % 2 ≡ 0) × (k < 64)

-- Two registers from r16 to r23.
abbrev pub AreMiddle : ℕ → ℕ → Type 0
AreMiddle d r = (16 ≤ d) × (d < 24) × (16 ≤ r) × (r < 24)

-- An I/O place of the lower half, and a bit.
abbrev pub IsIoBit : ℕ → ℕ → Type 0
IsIoBit a b = (a < 32) × (b < 8)

-- A relative number of words, 2048 back to 2047 on.
abbrev pub IsNear : ℤ → Type 0
IsNear k = (negsuc 2047 ≤ℤ k) × (k ≤ℤ pos 2047)

-- A bit of SREG, and a relative number of words, 64 back to 63 on.
abbrev pub IsBranch : ℕ → ℤ → Type 0
IsBranch s k = (s < 8) × (negsuc 63 ≤ℤ k) × (k ≤ℤ pos 63)

-- A sum, difference or comparison with its fields in range (each section of the manual, "Operands").
abbrev pub IsSum : Sums → Type 0
IsSum (Cpc d r) = AreRegisters d r
IsSum (Sbc d r) = AreRegisters d r
IsSum (Add d r) = AreRegisters d r
IsSum (Cp d r) = AreRegisters d r
IsSum (Sub d r) = AreRegisters d r
IsSum (Adc d r) = AreRegisters d r
IsSum (Cpi d k) = IsUpperWithByte d k
IsSum (Sbci d k) = IsUpperWithByte d k
IsSum (Subi d k) = IsUpperWithByte d k
IsSum (Neg d) = d < 32
IsSum (Inc d) = d < 32
IsSum (Dec d) = d < 32
IsSum (Adiw d k) = IsWidePair d k
IsSum (Sbiw d k) = IsWidePair d k

-- A product with its fields in range.
abbrev pub IsProduct : Products → Type 0
IsProduct (Muls d r) = (16 ≤ d) × (d < 32) × (16 ≤ r) × (r < 32)
IsProduct (Mulsu d r) = AreMiddle d r
IsProduct (Fmul d r) = AreMiddle d r
IsProduct (Fmuls d r) = AreMiddle d r
IsProduct (Fmulsu d r) = AreMiddle d r
IsProduct (Mul d r) = AreRegisters d r

-- Logic or a shift with its fields in range.
abbrev pub IsLogic : Logic → Type 0
IsLogic (And d r) = AreRegisters d r
IsLogic (Eor d r) = AreRegisters d r
IsLogic (Or d r) = AreRegisters d r
IsLogic (Ori d k) = IsUpperWithByte d k
IsLogic (Andi d k) = IsUpperWithByte d k
IsLogic (Com d) = d < 32
IsLogic (Swap d) = d < 32
IsLogic (Asr d) = d < 32
IsLogic (Lsr d) = d < 32
IsLogic (Ror d) = d < 32

-- A move with its fields in range that is not undefined.
abbrev pub IsMove : Moves → Type 0
IsMove (Movw d r) = (d < 32) × (d % 2 ≡ 0) × (r < 32) × (r % 2 ≡ 0)
IsMove (Mov d r) = AreRegisters d r
IsMove (LddZ d q) = (d < 32) × (q < 64)
IsMove (LddY d q) = (d < 32) × (q < 64)
IsMove (StdZ d q) = (d < 32) × (q < 64)
IsMove (StdY d q) = (d < 32) × (q < 64)
IsMove (Lds d k) = (d < 32) × (k < 2 ^ 16)
IsMove (Ld d p) = (d < 32) × (is_own p d ≡ false)
IsMove (LpmZ d) = d < 32
IsMove (LpmZInc d) = d < 30
IsMove (Pop d) = d < 32
IsMove (Sts d k) = (d < 32) × (k < 2 ^ 16)
IsMove (St d p) = (d < 32) × (is_own p d ≡ false)
IsMove (Push d) = d < 32
IsMove Lpm = Unit {0}
IsMove (In d a) = (d < 32) × (a < 64)
IsMove (Out d a) = (d < 32) × (a < 64)
IsMove (Ldi d k) = IsUpperWithByte d k

-- A jump, call, branch or skip with its fields in range.
abbrev pub IsJump : Jumps → Type 0
IsJump (Cpse d r) = AreRegisters d r
IsJump Ret = Unit {0}
IsJump Reti = Unit {0}
IsJump Ijmp = Unit {0}
IsJump Icall = Unit {0}
IsJump (Jmp k) = k < 2 ^ 22
IsJump (Call k) = k < 2 ^ 22
IsJump (Sbic a b) = IsIoBit a b
IsJump (Sbis a b) = IsIoBit a b
IsJump (Rjmp k) = IsNear k
IsJump (Rcall k) = IsNear k
IsJump (Brbs s k) = IsBranch s k
IsJump (Brbc s k) = IsBranch s k
IsJump (Sbrc d b) = (d < 32) × (b < 8)
IsJump (Sbrs d b) = (d < 32) × (b < 8)

-- Bits or control with its fields in range.
abbrev pub IsBits : Bits → Type 0
IsBits Nop = Unit {0}
IsBits (Bset s) = s < 8
IsBits (Bclr s) = s < 8
IsBits Sleep = Unit {0}
IsBits Break = Unit {0}
IsBits Wdr = Unit {0}
IsBits Spm = Unit {0}
IsBits (Cbi a b) = IsIoBit a b
IsBits (Sbi a b) = IsIoBit a b
IsBits (Bld d b) = (d < 32) × (b < 8)
IsBits (Bst d b) = (d < 32) × (b < 8)

-- An instruction that a word can say.
abbrev pub IsWellFormed : Instr → Type 0
IsWellFormed (instrs.Sums s) = IsSum s
IsWellFormed (instrs.Products p) = IsProduct p
IsWellFormed (instrs.Logic l) = IsLogic l
IsWellFormed (instrs.Moves m) = IsMove m
IsWellFormed (instrs.Jumps j) = IsJump j
IsWellFormed (instrs.Bits b) = IsBits b

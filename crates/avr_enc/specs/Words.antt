-- The first word of each instruction, and its second where it takes one. The private functions of the encoder
-- cite this; the contract of `encode` says instead that what is encoded is decoded to the instruction again.
use Rattle.std.specs.Prelude.{ℕ, ◌%◌, Option, Some, None}
use Rattle.avr_enc.specs.Shapes.{two_registers, upper_registers, two_pairs, one_register, with_constant, wide_pair, displaced, with_place, place_bit, register_bit, at_pointer, near, branch, far}
use Rattle.avr_table.specs.declared.instr.Sums.{Sums}
use Rattle.avr_table.specs.declared.instr.Products.{Products}
use Rattle.avr_table.specs.declared.instr.Logic.{Logic}
use Rattle.avr_table.specs.declared.instr.Moves.{Moves}
use Rattle.avr_table.specs.declared.instr.Jumps.{Jumps}
use Rattle.avr_table.specs.declared.instr.Bits.{Bits}
use Rattle.avr_table.specs.declared.instr.Sums.TheVariants.{Cpc, Sbc, Add, Cp, Sub, Adc, Cpi, Sbci, Subi, Neg, Inc, Dec, Adiw, Sbiw}
use Rattle.avr_table.specs.declared.instr.Products.TheVariants.{Muls, Mulsu, Fmul, Fmuls, Fmulsu, Mul}
use Rattle.avr_table.specs.declared.instr.Logic.TheVariants.{And, Eor, Or, Ori, Andi, Com, Swap, Asr, Lsr, Ror}
use Rattle.avr_table.specs.declared.instr.Moves.TheVariants.{Movw, Mov, LddZ, LddY, StdZ, StdY, Lds, Ld, LpmZ, LpmZInc, Pop, Sts, St, Push, Lpm, In, Out, Ldi}
use Rattle.avr_table.specs.declared.instr.Jumps.TheVariants.{Cpse, Ret, Reti, Ijmp, Icall, Jmp, Call, Sbic, Sbis, Rjmp, Rcall, Brbs, Brbc, Sbrc, Sbrs}
use Rattle.avr_table.specs.declared.instr.Bits.TheVariants.{Nop, Bset, Bclr, Sleep, Break, Wdr, Spm, Cbi, Sbi, Bld, Bst}

-- Sums, differences and comparisons.
abbrev pub sum_word : Sums → ℕ
sum_word (Cpc d r) = two_registers 0x0400 d r
sum_word (Sbc d r) = two_registers 0x0800 d r
sum_word (Add d r) = two_registers 0x0C00 d r
sum_word (Cp d r) = two_registers 0x1400 d r
sum_word (Sub d r) = two_registers 0x1800 d r
sum_word (Adc d r) = two_registers 0x1C00 d r
sum_word (Cpi d k) = with_constant 0x3000 d k
sum_word (Sbci d k) = with_constant 0x4000 d k
sum_word (Subi d k) = with_constant 0x5000 d k
sum_word (Neg d) = one_register 0x9401 d
sum_word (Inc d) = one_register 0x9403 d
sum_word (Dec d) = one_register 0x940A d
sum_word (Adiw d k) = wide_pair 0x9600 d k
sum_word (Sbiw d k) = wide_pair 0x9700 d k

-- Products.
abbrev pub product_word : Products → ℕ
product_word (Muls d r) = upper_registers 0x0200 d r
product_word (Mulsu d r) = upper_registers 0x0300 d r
product_word (Fmul d r) = upper_registers 0x0308 d r
product_word (Fmuls d r) = upper_registers 0x0380 d r
product_word (Fmulsu d r) = upper_registers 0x0388 d r
product_word (Mul d r) = two_registers 0x9C00 d r

-- Logic and shifts.
abbrev pub logic_word : Logic → ℕ
logic_word (And d r) = two_registers 0x2000 d r
logic_word (Eor d r) = two_registers 0x2400 d r
logic_word (Or d r) = two_registers 0x2800 d r
logic_word (Ori d k) = with_constant 0x6000 d k
logic_word (Andi d k) = with_constant 0x7000 d k
logic_word (Com d) = one_register 0x9400 d
logic_word (Swap d) = one_register 0x9402 d
logic_word (Asr d) = one_register 0x9405 d
logic_word (Lsr d) = one_register 0x9406 d
logic_word (Ror d) = one_register 0x9407 d

-- Moves.
abbrev pub move_word : Moves → ℕ
move_word (Movw d r) = two_pairs 0x0100 d r
move_word (Mov d r) = two_registers 0x2C00 d r
move_word (LddZ d q) = displaced 0x8000 d q
move_word (LddY d q) = displaced 0x8008 d q
move_word (StdZ d q) = displaced 0x8200 d q
move_word (StdY d q) = displaced 0x8208 d q
move_word (Lds d k) = one_register 0x9000 d
move_word (Ld d p) = at_pointer 0x9000 d p
move_word (LpmZ d) = one_register 0x9004 d
move_word (LpmZInc d) = one_register 0x9005 d
move_word (Pop d) = one_register 0x900F d
move_word (Sts d k) = one_register 0x9200 d
move_word (St d p) = at_pointer 0x9200 d p
move_word (Push d) = one_register 0x920F d
move_word Lpm = 0x95C8
move_word (In d a) = with_place 0xB000 d a
move_word (Out d a) = with_place 0xB800 d a
move_word (Ldi d k) = with_constant 0xE000 d k

-- Jumps, calls, branches and skips.
abbrev pub jump_word : Jumps → ℕ
jump_word (Cpse d r) = two_registers 0x1000 d r
jump_word Ret = 0x9508
jump_word Reti = 0x9518
jump_word Ijmp = 0x9409
jump_word Icall = 0x9509
jump_word (Jmp k) = far 0x940C k
jump_word (Call k) = far 0x940E k
jump_word (Sbic a b) = place_bit 0x9900 a b
jump_word (Sbis a b) = place_bit 0x9B00 a b
jump_word (Rjmp k) = near 0xC000 k
jump_word (Rcall k) = near 0xD000 k
jump_word (Brbs s k) = branch 0xF000 s k
jump_word (Brbc s k) = branch 0xF400 s k
jump_word (Sbrc d b) = register_bit 0xFC00 d b
jump_word (Sbrs d b) = register_bit 0xFE00 d b

-- Bits and control.
abbrev pub bits_word : Bits → ℕ
bits_word Nop = 0x0000
bits_word (Bset s) = one_register 0x9408 s
bits_word (Bclr s) = one_register 0x9488 s
bits_word Sleep = 0x9588
bits_word Break = 0x9598
bits_word Wdr = 0x95A8
bits_word Spm = 0x95E8
bits_word (Cbi a b) = place_bit 0x9800 a b
bits_word (Sbi a b) = place_bit 0x9A00 a b
bits_word (Bld d b) = register_bit 0xF800 d b
bits_word (Bst d b) = register_bit 0xFA00 d b

-- The second word of a move: the data address.
abbrev pub move_next : Moves → Option ℕ
move_next (Lds d k) = Some k
move_next (Sts d k) = Some k
move_next _ = None

-- The second word of a jump: the 16 lower bits of its target.
abbrev pub jump_next : Jumps → Option ℕ
jump_next (Jmp k) = Some (k % 65536)
jump_next (Call k) = Some (k % 65536)
jump_next _ = None

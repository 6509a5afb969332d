-- The private functions of the decoder, as their code has its cases. Each is proved equal to the instruction
-- table (`decoded`) over every word, so nothing here needs to be believed: the contract of `decode` cites the
-- table alone.
use Rattle.std.specs.Prelude.{ℕ, ℤ, ◌+◌, ◌*◌, ◌/◌, ◌%◌, ◌==◌, if◌then◌else◌, Result, Ok, Err}
use Rattle.avr_table.specs.Row.{signed}
use Rattle.avr_table.specs.Decoded.{checked}
use Rattle.avr_table.specs.declared.instr.Instr.{Instr}
use Rattle.avr_table.specs.declared.instr.Moves.{Moves}
use Rattle.avr_table.specs.declared.instr.Pointer.{Pointer}
use Rattle.avr_table.specs.declared.fault.DecodeFault.{DecodeFault}
use Rattle.avr_table.specs.declared.instr.Instr.TheVariants as instrs
use Rattle.avr_table.specs.declared.fault.DecodeFault.TheVariants.{Illegal}
use Rattle.avr_table.specs.declared.instr.Sums.TheVariants as sums
use Rattle.avr_table.specs.declared.instr.Products.TheVariants as products
use Rattle.avr_table.specs.declared.instr.Logic.TheVariants as logic
use Rattle.avr_table.specs.declared.instr.Moves.TheVariants as moves
use Rattle.avr_table.specs.declared.instr.Jumps.TheVariants as jumps
use Rattle.avr_table.specs.declared.instr.Bits.TheVariants as bits
use Rattle.avr_table.specs.declared.instr.Pointer.TheVariants as pointers

-- The fields, by arithmetic.
abbrev pub destination_of : ℕ → ℕ
destination_of w = w / 16 % 32

abbrev pub source_of : ℕ → ℕ
source_of w = w / 512 % 2 * 16 + w % 16

abbrev pub upper_destination_of : ℕ → ℕ
upper_destination_of w = 16 + w / 16 % 16

abbrev pub upper_source_of : ℕ → ℕ
upper_source_of w = 16 + w % 16

abbrev pub middle_destination_of : ℕ → ℕ
middle_destination_of w = 16 + w / 16 % 8

abbrev pub middle_source_of : ℕ → ℕ
middle_source_of w = 16 + w % 8

abbrev pub pair_destination_of : ℕ → ℕ
pair_destination_of w = w / 16 % 16 * 2

abbrev pub pair_source_of : ℕ → ℕ
pair_source_of w = w % 16 * 2

abbrev pub wide_pair_of : ℕ → ℕ
wide_pair_of w = 24 + w / 16 % 4 * 2

abbrev pub constant_of : ℕ → ℕ
constant_of w = w / 256 % 16 * 16 + w % 16

abbrev pub small_constant_of : ℕ → ℕ
small_constant_of w = w / 64 % 4 * 16 + w % 16

abbrev pub displacement_of : ℕ → ℕ
displacement_of w = w / 8192 % 2 * 32 + w / 1024 % 4 * 8 + w % 8

abbrev pub low_place_of : ℕ → ℕ
low_place_of w = w / 8 % 32

abbrev pub place_of : ℕ → ℕ
place_of w = w / 512 % 4 * 16 + w % 16

abbrev pub bit_of : ℕ → ℕ
bit_of w = w % 8

abbrev pub flag_of : ℕ → ℕ
flag_of w = w / 16 % 8

abbrev pub target_of : ℕ → ℕ → ℕ
target_of w next = 65536 * (w / 16 % 32 * 2 + w % 2) + next

abbrev pub near_of : ℕ → ℤ
near_of w = signed 12 (w % 4096)

abbrev pub branch_of : ℕ → ℤ
branch_of w = signed 7 (w / 8 % 128)

-- 0000 0011: the products of r16 to r23.
abbrev pub fractional_of : ℕ → Instr
fractional_of w =
    if w / 128 % 2 * 2 + w / 8 % 2 == 0 then instrs.Products (products.Mulsu (middle_destination_of w) (middle_source_of w))
    else if w / 128 % 2 * 2 + w / 8 % 2 == 1 then instrs.Products (products.Fmul (middle_destination_of w) (middle_source_of w))
    else if w / 128 % 2 * 2 + w / 8 % 2 == 2 then instrs.Products (products.Fmuls (middle_destination_of w) (middle_source_of w))
    else instrs.Products (products.Fmulsu (middle_destination_of w) (middle_source_of w))

-- 0000 00: nop, movw and the products but mul.
abbrev pub product_of : ℕ → Result Instr DecodeFault
product_of w =
    if w / 256 == 1 then Ok (instrs.Moves (moves.Movw (pair_destination_of w) (pair_source_of w)))
    else if w / 256 == 2 then Ok (instrs.Products (products.Muls (upper_destination_of w) (upper_source_of w)))
    else if w / 256 == 3 then Ok (fractional_of w)
    else (if w == 0 then Ok (instrs.Bits bits.Nop)
    else Err Illegal)

-- 0000.
abbrev pub lowest_of : ℕ → Result Instr DecodeFault
lowest_of w =
    if w / 1024 == 1 then Ok (instrs.Sums (sums.Cpc (destination_of w) (source_of w)))
    else if w / 1024 == 2 then Ok (instrs.Sums (sums.Sbc (destination_of w) (source_of w)))
    else if w / 1024 == 3 then Ok (instrs.Sums (sums.Add (destination_of w) (source_of w)))
    else product_of w

-- 0001: cpse, cp, sub, adc.
abbrev pub comparison_of : ℕ → Instr
comparison_of w =
    if w / 1024 % 4 == 0 then instrs.Jumps (jumps.Cpse (destination_of w) (source_of w))
    else if w / 1024 % 4 == 1 then instrs.Sums (sums.Cp (destination_of w) (source_of w))
    else if w / 1024 % 4 == 2 then instrs.Sums (sums.Sub (destination_of w) (source_of w))
    else instrs.Sums (sums.Adc (destination_of w) (source_of w))

-- 0010: and, eor, or, mov.
abbrev pub logic_of : ℕ → Instr
logic_of w =
    if w / 1024 % 4 == 0 then instrs.Logic (logic.And (destination_of w) (source_of w))
    else if w / 1024 % 4 == 1 then instrs.Logic (logic.Eor (destination_of w) (source_of w))
    else if w / 1024 % 4 == 2 then instrs.Logic (logic.Or (destination_of w) (source_of w))
    else instrs.Moves (moves.Mov (destination_of w) (source_of w))

-- 0011 to 0111 and 1110: a register from r16 on and a constant.
abbrev pub with_constant_of : ℕ → Instr
with_constant_of w =
    if w / 4096 == 3 then instrs.Sums (sums.Cpi (upper_destination_of w) (constant_of w))
    else if w / 4096 == 4 then instrs.Sums (sums.Sbci (upper_destination_of w) (constant_of w))
    else if w / 4096 == 5 then instrs.Sums (sums.Subi (upper_destination_of w) (constant_of w))
    else if w / 4096 == 6 then instrs.Logic (logic.Ori (upper_destination_of w) (constant_of w))
    else if w / 4096 == 7 then instrs.Logic (logic.Andi (upper_destination_of w) (constant_of w))
    else instrs.Moves (moves.Ldi (upper_destination_of w) (constant_of w))

-- 10.0: ldd and std.
abbrev pub displaced_of : ℕ → Instr
displaced_of w =
    if w / 512 % 2 * 2 + w / 8 % 2 == 0 then instrs.Moves (moves.LddZ (destination_of w) (displacement_of w))
    else if w / 512 % 2 * 2 + w / 8 % 2 == 1 then instrs.Moves (moves.LddY (destination_of w) (displacement_of w))
    else if w / 512 % 2 * 2 + w / 8 % 2 == 2 then instrs.Moves (moves.StdZ (destination_of w) (displacement_of w))
    else instrs.Moves (moves.StdY (destination_of w) (displacement_of w))

-- The pointer of a load or store, by its four lowest bits.
abbrev pub pointer_of : ℕ → Result Pointer DecodeFault
pointer_of w =
    if w % 16 == 1 then Ok pointers.ZInc
    else if w % 16 == 2 then Ok pointers.ZDec
    else if w % 16 == 9 then Ok pointers.YInc
    else if w % 16 == 10 then Ok pointers.YDec
    else if w % 16 == 12 then Ok pointers.X
    else if w % 16 == 13 then Ok pointers.XInc
    else if w % 16 == 14 then Ok pointers.XDec
    else Err Illegal

-- A move at this pointer, where there is one.
abbrev pub at_pointer : Result Pointer DecodeFault → (Pointer → Moves) → Result Instr DecodeFault
at_pointer (Ok p) move = checked (instrs.Moves (move p))
at_pointer (Err e) move = Err e

-- 1001 000: lds, ld, lpm, pop.
abbrev pub load_of : ℕ → ℕ → Result Instr DecodeFault
load_of w next =
    if w % 16 == 0 then Ok (instrs.Moves (moves.Lds (destination_of w) next))
    else if w % 16 == 4 then Ok (instrs.Moves (moves.LpmZ (destination_of w)))
    else if w % 16 == 5 then checked (instrs.Moves (moves.LpmZInc (destination_of w)))
    else if w % 16 == 15 then Ok (instrs.Moves (moves.Pop (destination_of w)))
    else at_pointer (pointer_of w) (λ p. moves.Ld (destination_of w) p)

-- 1001 001: sts, st, push.
abbrev pub store_of : ℕ → ℕ → Result Instr DecodeFault
store_of w next =
    if w % 16 == 0 then Ok (instrs.Moves (moves.Sts (destination_of w) next))
    else if w % 16 == 15 then Ok (instrs.Moves (moves.Push (destination_of w)))
    else at_pointer (pointer_of w) (λ p. moves.St (destination_of w) p)

-- 1001 0101 .... 1000: returns, sleep, break, wdr, lpm, spm.
abbrev pub control_of : ℕ → Result Instr DecodeFault
control_of w =
    if w / 16 % 16 == 0 then Ok (instrs.Jumps jumps.Ret)
    else if w / 16 % 16 == 1 then Ok (instrs.Jumps jumps.Reti)
    else if w / 16 % 16 == 8 then Ok (instrs.Bits bits.Sleep)
    else if w / 16 % 16 == 9 then Ok (instrs.Bits bits.Break)
    else if w / 16 % 16 == 10 then Ok (instrs.Bits bits.Wdr)
    else if w / 16 % 16 == 12 then Ok (instrs.Moves moves.Lpm)
    else if w / 16 % 16 == 14 then Ok (instrs.Bits bits.Spm)
    else Err Illegal

-- 1001 010. .... 1000: bset, bclr and the instructions without a field.
abbrev pub flag_or_control_of : ℕ → Result Instr DecodeFault
flag_or_control_of w =
    if w / 128 % 4 == 0 then Ok (instrs.Bits (bits.Bset (flag_of w)))
    else if w / 128 % 4 == 1 then Ok (instrs.Bits (bits.Bclr (flag_of w)))
    else control_of w

-- 1001 010. .... 1001: ijmp, icall.
abbrev pub indirect_of : ℕ → Result Instr DecodeFault
indirect_of w =
    if w / 16 % 32 == 0 then Ok (instrs.Jumps jumps.Ijmp)
    else if w / 16 % 32 == 16 then Ok (instrs.Jumps jumps.Icall)
    else Err Illegal

-- 1001 010. .... 0000 to 1011.
abbrev pub one_register_of : ℕ → Result Instr DecodeFault
one_register_of w =
    if w % 16 == 0 then Ok (instrs.Logic (logic.Com (destination_of w)))
    else if w % 16 == 1 then Ok (instrs.Sums (sums.Neg (destination_of w)))
    else if w % 16 == 2 then Ok (instrs.Logic (logic.Swap (destination_of w)))
    else if w % 16 == 3 then Ok (instrs.Sums (sums.Inc (destination_of w)))
    else if w % 16 == 5 then Ok (instrs.Logic (logic.Asr (destination_of w)))
    else if w % 16 == 6 then Ok (instrs.Logic (logic.Lsr (destination_of w)))
    else if w % 16 == 7 then Ok (instrs.Logic (logic.Ror (destination_of w)))
    else if w % 16 == 8 then flag_or_control_of w
    else if w % 16 == 9 then indirect_of w
    else if w % 16 == 10 then Ok (instrs.Sums (sums.Dec (destination_of w)))
    else Err Illegal

-- 1001 010. .... 11..: jmp, call.
abbrev pub far_of : ℕ → ℕ → Instr
far_of w next =
    if w / 2 % 2 == 0 then instrs.Jumps (jumps.Jmp (target_of w next))
    else instrs.Jumps (jumps.Call (target_of w next))

-- 1001 011: adiw, sbiw.
abbrev pub wide_of : ℕ → Instr
wide_of w =
    if w / 256 % 2 == 0 then instrs.Sums (sums.Adiw (wide_pair_of w) (small_constant_of w))
    else instrs.Sums (sums.Sbiw (wide_pair_of w) (small_constant_of w))

-- 1001 10: bits of the I/O places 0 to 31.
abbrev pub place_bit_of : ℕ → Instr
place_bit_of w =
    if w / 256 % 4 == 0 then instrs.Bits (bits.Cbi (low_place_of w) (bit_of w))
    else if w / 256 % 4 == 1 then instrs.Jumps (jumps.Sbic (low_place_of w) (bit_of w))
    else if w / 256 % 4 == 2 then instrs.Bits (bits.Sbi (low_place_of w) (bit_of w))
    else instrs.Jumps (jumps.Sbis (low_place_of w) (bit_of w))

-- 1001.
abbrev pub special_of : ℕ → ℕ → Result Instr DecodeFault
special_of w next =
    if w / 512 % 8 == 0 then load_of w next
    else if w / 512 % 8 == 1 then store_of w next
    else if w / 512 % 8 == 2 then (if w / 4 % 4 == 3 then Ok (far_of w next)
    else one_register_of w)
    else if w / 512 % 8 == 3 then Ok (wide_of w)
    else if w / 512 % 8 == 4 then Ok (place_bit_of w)
    else if w / 512 % 8 == 5 then Ok (place_bit_of w)
    else Ok (instrs.Products (products.Mul (destination_of w) (source_of w)))

-- 1011: in, out.
abbrev pub input_or_output_of : ℕ → Instr
input_or_output_of w =
    if w / 2048 % 2 == 0 then instrs.Moves (moves.In (destination_of w) (place_of w))
    else instrs.Moves (moves.Out (destination_of w) (place_of w))

-- 1100 and 1101: rjmp, rcall.
abbrev pub relative_of : ℕ → Instr
relative_of w =
    if w / 4096 % 2 == 0 then instrs.Jumps (jumps.Rjmp (near_of w))
    else instrs.Jumps (jumps.Rcall (near_of w))

-- 1111 1... .... 0...: bits of a register.
abbrev pub register_bit_of : ℕ → Instr
register_bit_of w =
    if w / 512 % 4 == 0 then instrs.Bits (bits.Bld (destination_of w) (bit_of w))
    else if w / 512 % 4 == 1 then instrs.Bits (bits.Bst (destination_of w) (bit_of w))
    else if w / 512 % 4 == 2 then instrs.Jumps (jumps.Sbrc (destination_of w) (bit_of w))
    else instrs.Jumps (jumps.Sbrs (destination_of w) (bit_of w))

-- 1111: branches, and bits of a register.
abbrev pub branch_or_bit_of : ℕ → Result Instr DecodeFault
branch_or_bit_of w =
    if w / 1024 % 4 == 0 then Ok (instrs.Jumps (jumps.Brbs (bit_of w) (branch_of w)))
    else if w / 1024 % 4 == 1 then Ok (instrs.Jumps (jumps.Brbc (bit_of w) (branch_of w)))
    else (if w / 8 % 2 == 0 then Ok (register_bit_of w)
    else Err Illegal)

-- Where the fields of an instruction stand in its first word, by arithmetic: one function for each form of
-- opcode. `base` is the opcode with 0 at every field.
use Rattle.std.specs.Prelude.{ℕ, ℤ, pos, negsuc, ◌+◌, ◌-◌, ◌*◌, ◌/◌, ◌%◌}
use Rattle.avr_table.specs.declared.instr.Pointer.{Pointer}
use Rattle.avr_table.specs.declared.instr.Pointer.TheVariants.{ZInc, ZDec, YInc, YDec, X, XInc, XDec}

-- ......rd dddd rrrr
abbrev pub two_registers : ℕ → ℕ → ℕ → ℕ
two_registers base d r = base + r / 16 * 512 + d * 16 + r % 16

-- ........ dddd rrrr, with registers from r16 on.
abbrev pub upper_registers : ℕ → ℕ → ℕ → ℕ
upper_registers base d r = base + (d - 16) * 16 + (r - 16)

-- ........ dddd rrrr, with pairs by their lower register.
abbrev pub two_pairs : ℕ → ℕ → ℕ → ℕ
two_pairs base d r = base + d / 2 * 16 + r / 2

-- .......d dddd ....
abbrev pub one_register : ℕ → ℕ → ℕ
one_register base d = base + d * 16

-- .... KKKK dddd KKKK, with a register from r16 on.
abbrev pub with_constant : ℕ → ℕ → ℕ → ℕ
with_constant base d k = base + k / 16 * 256 + (d - 16) * 16 + k % 16

-- ........ KKdd KKKK, with a pair from r24 on.
abbrev pub wide_pair : ℕ → ℕ → ℕ → ℕ
wide_pair base d k = base + k / 16 * 64 + (d - 24) / 2 * 16 + k % 16

-- ..q. qq.d dddd .qqq
abbrev pub displaced : ℕ → ℕ → ℕ → ℕ
displaced base d q = base + q / 32 * 8192 + q / 8 % 4 * 1024 + d * 16 + q % 8

-- .....AAd dddd AAAA
abbrev pub with_place : ℕ → ℕ → ℕ → ℕ
with_place base d a = base + a / 16 * 512 + d * 16 + a % 16

-- ........ AAAA Abbb
abbrev pub place_bit : ℕ → ℕ → ℕ → ℕ
place_bit base a b = base + a * 8 + b

-- .......d dddd .bbb
abbrev pub register_bit : ℕ → ℕ → ℕ → ℕ
register_bit base d b = base + d * 16 + b

-- .......d dddd pppp
abbrev pub pointer_bits : Pointer → ℕ
pointer_bits ZInc = 1
pointer_bits ZDec = 2
pointer_bits YInc = 9
pointer_bits YDec = 10
pointer_bits X = 12
pointer_bits XInc = 13
pointer_bits XDec = 14

abbrev pub at_pointer : ℕ → ℕ → Pointer → ℕ
at_pointer base d p = base + d * 16 + pointer_bits p

-- A signed number of 12 or of 7 bits, in two's complement.
abbrev pub twelve_bits : ℤ → ℕ
twelve_bits (pos n) = n
twelve_bits (negsuc n) = 4095 - n

abbrev pub seven_bits : ℤ → ℕ
seven_bits (pos n) = n
seven_bits (negsuc n) = 127 - n

-- .... kkkk kkkk kkkk
abbrev pub near : ℕ → ℤ → ℕ
near base k = base + twelve_bits k

-- ......kk kkkk ksss
abbrev pub branch : ℕ → ℕ → ℤ → ℕ
branch base s k = base + seven_bits k * 8 + s

-- .......k kkkk ...k, the six bits over the next word.
abbrev pub far : ℕ → ℕ → ℕ
far base k = base + k / 65536 / 2 * 16 + k / 65536 % 2

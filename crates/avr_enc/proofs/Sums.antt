-- The words of sums, differences and comparisons are decoded to them again.
use Rattle.std.proofs.Common.{◌≡◌, ℕ, refl}
use Rattle.std.specs.Prelude.{Ok}
use Rattle.avr_table.specs.Decoded.{decoded}
use Rattle.avr_table.specs.WellFormed.{IsSum}
use Rattle.avr_table.specs.declared.instr.Sums.{Sums}
use Rattle.avr_table.specs.declared.instr.Instr.TheVariants as instrs
use Rattle.avr_table.specs.declared.instr.Sums.TheVariants.{Cpc, Sbc, Add, Cp, Sub, Adc, Cpi, Sbci, Subi, Neg, Inc, Dec, Adiw, Sbiw}
use Rattle.avr_enc.specs.Shapes.{one_register, two_registers, wide_pair, with_constant}
use Rattle.avr_enc.specs.Words.{sum_word}
use Rattle.avr_enc.proofs.Fields.{OneField, TwoFields, constants, field_below, plain, registers, upper, wide, wide_pairs}

cpc_decodes : TwoFields 32 32 plain plain (two_registers 0x0400) (λ d r. instrs.Sums (Cpc d r))
cpc_decodes next = refl

sbc_decodes : TwoFields 32 32 plain plain (two_registers 0x0800) (λ d r. instrs.Sums (Sbc d r))
sbc_decodes next = refl

add_decodes : TwoFields 32 32 plain plain (two_registers 0x0C00) (λ d r. instrs.Sums (Add d r))
add_decodes next = refl

cp_decodes : TwoFields 32 32 plain plain (two_registers 0x1400) (λ d r. instrs.Sums (Cp d r))
cp_decodes next = refl

sub_decodes : TwoFields 32 32 plain plain (two_registers 0x1800) (λ d r. instrs.Sums (Sub d r))
sub_decodes next = refl

adc_decodes : TwoFields 32 32 plain plain (two_registers 0x1C00) (λ d r. instrs.Sums (Adc d r))
adc_decodes next = refl

cpi_decodes : TwoFields 16 256 upper plain (with_constant 0x3000) (λ d k. instrs.Sums (Cpi d k))
cpi_decodes next = refl

sbci_decodes : TwoFields 16 256 upper plain (with_constant 0x4000) (λ d k. instrs.Sums (Sbci d k))
sbci_decodes next = refl

subi_decodes : TwoFields 16 256 upper plain (with_constant 0x5000) (λ d k. instrs.Sums (Subi d k))
subi_decodes next = refl

neg_decodes : OneField 32 (one_register 0x9401) (λ d next. Ok (instrs.Sums (Neg d)))
neg_decodes next = refl

inc_decodes : OneField 32 (one_register 0x9403) (λ d next. Ok (instrs.Sums (Inc d)))
inc_decodes next = refl

dec_decodes : OneField 32 (one_register 0x940A) (λ d next. Ok (instrs.Sums (Dec d)))
dec_decodes next = refl

adiw_decodes : TwoFields 4 64 wide plain (wide_pair 0x9600) (λ d k. instrs.Sums (Adiw d k))
adiw_decodes next = refl

sbiw_decodes : TwoFields 4 64 wide plain (wide_pair 0x9700) (λ d k. instrs.Sums (Sbiw d k))
sbiw_decodes next = refl

pub sum_decodes : (next : ℕ) (instr : Sums) → IsSum instr → decoded (sum_word instr) next ≡ Ok (instrs.Sums instr)
sum_decodes next (Cpc d r) fit = registers (two_registers 0x0400) (λ d r. instrs.Sums (Cpc d r)) cpc_decodes next d r fit
sum_decodes next (Sbc d r) fit = registers (two_registers 0x0800) (λ d r. instrs.Sums (Sbc d r)) sbc_decodes next d r fit
sum_decodes next (Add d r) fit = registers (two_registers 0x0C00) (λ d r. instrs.Sums (Add d r)) add_decodes next d r fit
sum_decodes next (Cp d r) fit = registers (two_registers 0x1400) (λ d r. instrs.Sums (Cp d r)) cp_decodes next d r fit
sum_decodes next (Sub d r) fit = registers (two_registers 0x1800) (λ d r. instrs.Sums (Sub d r)) sub_decodes next d r fit
sum_decodes next (Adc d r) fit = registers (two_registers 0x1C00) (λ d r. instrs.Sums (Adc d r)) adc_decodes next d r fit
sum_decodes next (Cpi d k) fit = constants (with_constant 0x3000) (λ d k. instrs.Sums (Cpi d k)) cpi_decodes next d k fit
sum_decodes next (Sbci d k) fit = constants (with_constant 0x4000) (λ d k. instrs.Sums (Sbci d k)) sbci_decodes next d k fit
sum_decodes next (Subi d k) fit = constants (with_constant 0x5000) (λ d k. instrs.Sums (Subi d k)) subi_decodes next d k fit
sum_decodes next (Neg d) fit = field_below 32 (one_register 0x9401) (λ d. instrs.Sums (Neg d)) neg_decodes next d fit
sum_decodes next (Inc d) fit = field_below 32 (one_register 0x9403) (λ d. instrs.Sums (Inc d)) inc_decodes next d fit
sum_decodes next (Dec d) fit = field_below 32 (one_register 0x940A) (λ d. instrs.Sums (Dec d)) dec_decodes next d fit
sum_decodes next (Adiw d k) fit = wide_pairs (wide_pair 0x9600) (λ d k. instrs.Sums (Adiw d k)) adiw_decodes next d k fit
sum_decodes next (Sbiw d k) fit = wide_pairs (wide_pair 0x9700) (λ d k. instrs.Sums (Sbiw d k)) sbiw_decodes next d k fit

-- The words of logic and shifts are decoded to them again.
use Rattle.std.proofs.Common.{◌≡◌, ℕ, refl}
use Rattle.std.specs.Prelude.{Ok}
use Rattle.avr_table.specs.Decoded.{decoded}
use Rattle.avr_table.specs.WellFormed.{IsLogic}
use Rattle.avr_table.specs.declared.instr.Logic.{Logic}
use Rattle.avr_table.specs.declared.instr.Instr.TheVariants as instrs
use Rattle.avr_table.specs.declared.instr.Logic.TheVariants.{And, Eor, Or, Ori, Andi, Com, Swap, Asr, Lsr, Ror}
use Rattle.avr_enc.specs.Shapes.{one_register, two_registers, with_constant}
use Rattle.avr_enc.specs.Words.{logic_word}
use Rattle.avr_enc.proofs.Fields.{OneField, TwoFields, constants, field_below, plain, registers, upper}

and_decodes : TwoFields 32 32 plain plain (two_registers 0x2000) (λ d r. instrs.Logic (And d r))
and_decodes next = refl

eor_decodes : TwoFields 32 32 plain plain (two_registers 0x2400) (λ d r. instrs.Logic (Eor d r))
eor_decodes next = refl

or_decodes : TwoFields 32 32 plain plain (two_registers 0x2800) (λ d r. instrs.Logic (Or d r))
or_decodes next = refl

ori_decodes : TwoFields 16 256 upper plain (with_constant 0x6000) (λ d k. instrs.Logic (Ori d k))
ori_decodes next = refl

andi_decodes : TwoFields 16 256 upper plain (with_constant 0x7000) (λ d k. instrs.Logic (Andi d k))
andi_decodes next = refl

com_decodes : OneField 32 (one_register 0x9400) (λ d next. Ok (instrs.Logic (Com d)))
com_decodes next = refl

swap_decodes : OneField 32 (one_register 0x9402) (λ d next. Ok (instrs.Logic (Swap d)))
swap_decodes next = refl

asr_decodes : OneField 32 (one_register 0x9405) (λ d next. Ok (instrs.Logic (Asr d)))
asr_decodes next = refl

lsr_decodes : OneField 32 (one_register 0x9406) (λ d next. Ok (instrs.Logic (Lsr d)))
lsr_decodes next = refl

ror_decodes : OneField 32 (one_register 0x9407) (λ d next. Ok (instrs.Logic (Ror d)))
ror_decodes next = refl

pub logic_decodes : (next : ℕ) (instr : Logic) → IsLogic instr → decoded (logic_word instr) next ≡ Ok (instrs.Logic instr)
logic_decodes next (And d r) fit = registers (two_registers 0x2000) (λ d r. instrs.Logic (And d r)) and_decodes next d r fit
logic_decodes next (Eor d r) fit = registers (two_registers 0x2400) (λ d r. instrs.Logic (Eor d r)) eor_decodes next d r fit
logic_decodes next (Or d r) fit = registers (two_registers 0x2800) (λ d r. instrs.Logic (Or d r)) or_decodes next d r fit
logic_decodes next (Ori d k) fit = constants (with_constant 0x6000) (λ d k. instrs.Logic (Ori d k)) ori_decodes next d k fit
logic_decodes next (Andi d k) fit = constants (with_constant 0x7000) (λ d k. instrs.Logic (Andi d k)) andi_decodes next d k fit
logic_decodes next (Com d) fit = field_below 32 (one_register 0x9400) (λ d. instrs.Logic (Com d)) com_decodes next d fit
logic_decodes next (Swap d) fit = field_below 32 (one_register 0x9402) (λ d. instrs.Logic (Swap d)) swap_decodes next d fit
logic_decodes next (Asr d) fit = field_below 32 (one_register 0x9405) (λ d. instrs.Logic (Asr d)) asr_decodes next d fit
logic_decodes next (Lsr d) fit = field_below 32 (one_register 0x9406) (λ d. instrs.Logic (Lsr d)) lsr_decodes next d fit
logic_decodes next (Ror d) fit = field_below 32 (one_register 0x9407) (λ d. instrs.Logic (Ror d)) ror_decodes next d fit

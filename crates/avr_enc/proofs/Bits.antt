-- The words of bits and control are decoded to them again.
use Rattle.std.proofs.Common.{◌≡◌, ℕ, refl}
use Rattle.std.specs.Prelude.{Ok}
use Rattle.avr_table.specs.Decoded.{decoded}
use Rattle.avr_table.specs.WellFormed.{IsBits}
use Rattle.avr_table.specs.declared.instr.Bits.{Bits}
use Rattle.avr_table.specs.declared.instr.Instr.TheVariants as instrs
use Rattle.avr_table.specs.declared.instr.Bits.TheVariants.{Nop, Bset, Bclr, Sleep, Break, Wdr, Spm, Cbi, Sbi, Bld, Bst}
use Rattle.avr_enc.specs.Shapes.{one_register, place_bit, register_bit}
use Rattle.avr_enc.specs.Words.{bits_word}
use Rattle.avr_enc.proofs.Fields.{OneField, TwoFields, field_below, fields_below, plain}

nop_decodes : (next : ℕ) → decoded 0x0000 next ≡ Ok (instrs.Bits Nop)
unfolding decoded
nop_decodes next = refl

bset_decodes : OneField 8 (one_register 0x9408) (λ s next. Ok (instrs.Bits (Bset s)))
bset_decodes next = refl

bclr_decodes : OneField 8 (one_register 0x9488) (λ s next. Ok (instrs.Bits (Bclr s)))
bclr_decodes next = refl

sleep_decodes : (next : ℕ) → decoded 0x9588 next ≡ Ok (instrs.Bits Sleep)
unfolding decoded
sleep_decodes next = refl

break_decodes : (next : ℕ) → decoded 0x9598 next ≡ Ok (instrs.Bits Break)
unfolding decoded
break_decodes next = refl

wdr_decodes : (next : ℕ) → decoded 0x95A8 next ≡ Ok (instrs.Bits Wdr)
unfolding decoded
wdr_decodes next = refl

spm_decodes : (next : ℕ) → decoded 0x95E8 next ≡ Ok (instrs.Bits Spm)
unfolding decoded
spm_decodes next = refl

cbi_decodes : TwoFields 32 8 plain plain (place_bit 0x9800) (λ a b. instrs.Bits (Cbi a b))
cbi_decodes next = refl

sbi_decodes : TwoFields 32 8 plain plain (place_bit 0x9A00) (λ a b. instrs.Bits (Sbi a b))
sbi_decodes next = refl

bld_decodes : TwoFields 32 8 plain plain (register_bit 0xF800) (λ d b. instrs.Bits (Bld d b))
bld_decodes next = refl

bst_decodes : TwoFields 32 8 plain plain (register_bit 0xFA00) (λ d b. instrs.Bits (Bst d b))
bst_decodes next = refl

pub bits_decodes : (next : ℕ) (instr : Bits) → IsBits instr → decoded (bits_word instr) next ≡ Ok (instrs.Bits instr)
bits_decodes next Nop fit = nop_decodes next
bits_decodes next (Bset s) fit = field_below 8 (one_register 0x9408) (λ s. instrs.Bits (Bset s)) bset_decodes next s fit
bits_decodes next (Bclr s) fit = field_below 8 (one_register 0x9488) (λ s. instrs.Bits (Bclr s)) bclr_decodes next s fit
bits_decodes next Sleep fit = sleep_decodes next
bits_decodes next Break fit = break_decodes next
bits_decodes next Wdr fit = wdr_decodes next
bits_decodes next Spm fit = spm_decodes next
bits_decodes next (Cbi a b) fit = fields_below 32 8 (place_bit 0x9800) (λ a b. instrs.Bits (Cbi a b)) cbi_decodes next a b fit
bits_decodes next (Sbi a b) fit = fields_below 32 8 (place_bit 0x9A00) (λ a b. instrs.Bits (Sbi a b)) sbi_decodes next a b fit
bits_decodes next (Bld d b) fit = fields_below 32 8 (register_bit 0xF800) (λ d b. instrs.Bits (Bld d b)) bld_decodes next d b fit
bits_decodes next (Bst d b) fit = fields_below 32 8 (register_bit 0xFA00) (λ d b. instrs.Bits (Bst d b)) bst_decodes next d b fit

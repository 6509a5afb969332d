-- The words of products are decoded to them again.
use Rattle.std.proofs.Common.{◌≡◌, ℕ, refl}
use Rattle.std.specs.Prelude.{Ok}
use Rattle.avr_table.specs.Decoded.{decoded}
use Rattle.avr_table.specs.WellFormed.{IsProduct}
use Rattle.avr_table.specs.declared.instr.Products.{Products}
use Rattle.avr_table.specs.declared.instr.Instr.TheVariants as instrs
use Rattle.avr_table.specs.declared.instr.Products.TheVariants.{Muls, Mulsu, Fmul, Fmuls, Fmulsu, Mul}
use Rattle.avr_enc.specs.Shapes.{two_registers, upper_registers}
use Rattle.avr_enc.specs.Words.{product_word}
use Rattle.avr_enc.proofs.Fields.{TwoFields, middles, plain, registers, upper, uppers}

muls_decodes : TwoFields 16 16 upper upper (upper_registers 0x0200) (λ d r. instrs.Products (Muls d r))
muls_decodes next = refl

mulsu_decodes : TwoFields 8 8 upper upper (upper_registers 0x0300) (λ d r. instrs.Products (Mulsu d r))
mulsu_decodes next = refl

fmul_decodes : TwoFields 8 8 upper upper (upper_registers 0x0308) (λ d r. instrs.Products (Fmul d r))
fmul_decodes next = refl

fmuls_decodes : TwoFields 8 8 upper upper (upper_registers 0x0380) (λ d r. instrs.Products (Fmuls d r))
fmuls_decodes next = refl

fmulsu_decodes : TwoFields 8 8 upper upper (upper_registers 0x0388) (λ d r. instrs.Products (Fmulsu d r))
fmulsu_decodes next = refl

mul_decodes : TwoFields 32 32 plain plain (two_registers 0x9C00) (λ d r. instrs.Products (Mul d r))
mul_decodes next = refl

pub product_decodes : (next : ℕ) (instr : Products) → IsProduct instr → decoded (product_word instr) next ≡ Ok (instrs.Products instr)
product_decodes next (Muls d r) fit = uppers (upper_registers 0x0200) (λ d r. instrs.Products (Muls d r)) muls_decodes next d r fit
product_decodes next (Mulsu d r) fit = middles (upper_registers 0x0300) (λ d r. instrs.Products (Mulsu d r)) mulsu_decodes next d r fit
product_decodes next (Fmul d r) fit = middles (upper_registers 0x0308) (λ d r. instrs.Products (Fmul d r)) fmul_decodes next d r fit
product_decodes next (Fmuls d r) fit = middles (upper_registers 0x0380) (λ d r. instrs.Products (Fmuls d r)) fmuls_decodes next d r fit
product_decodes next (Fmulsu d r) fit = middles (upper_registers 0x0388) (λ d r. instrs.Products (Fmulsu d r)) fmulsu_decodes next d r fit
product_decodes next (Mul d r) fit = registers (two_registers 0x9C00) (λ d r. instrs.Products (Mul d r)) mul_decodes next d r fit

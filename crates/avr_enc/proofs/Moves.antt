-- The words of moves are decoded to them again.
use Rattle.std.proofs.Common.{◌≡◌, ℕ, refl, ◌∙◌, false}
use Rattle.std.specs.Prelude.{Ok, unwrap_or}
use Rattle.avr_table.specs.Decoded.{decoded, checked, is_undefined}
use Rattle.avr_table.specs.WellFormed.{IsMove}
use Rattle.avr_table.specs.declared.instr.Pointer.{Pointer}
use Rattle.avr_table.specs.declared.instr.Pointer.TheVariants.{ZInc, ZDec, YInc, YDec, X, XInc, XDec}
use Rattle.avr_table.specs.declared.instr.Instr.{Instr}
use Rattle.avr_table.specs.declared.instr.Moves.{Moves}
use Rattle.avr_table.specs.declared.instr.Instr.TheVariants as instrs
use Rattle.avr_table.specs.declared.instr.Moves.TheVariants.{Movw, Mov, LddZ, LddY, StdZ, StdY, Lds, Ld, LpmZ, LpmZInc, Pop, Sts, St, Push, Lpm, In, Out, Ldi}
use Rattle.avr_enc.specs.Shapes.{at_pointer, displaced, one_register, two_pairs, two_registers, with_constant, with_place}
use Rattle.avr_enc.specs.Words.{move_word, move_next}
use Rattle.avr_enc.proofs.Fields.{OneField, TwoFields, constants, field_below, fields_below, one_field, pair, pairs, plain, registers, upper}

-- A defined instruction is what it is checked to.
is_checked : (i : Instr) → is_undefined i ≡ false → checked i ≡ Ok i
is_checked i defined = rw defined refl

movw_decodes : TwoFields 16 16 pair pair (two_pairs 0x0100) (λ d r. instrs.Moves (Movw d r))
movw_decodes next = refl

mov_decodes : TwoFields 32 32 plain plain (two_registers 0x2C00) (λ d r. instrs.Moves (Mov d r))
mov_decodes next = refl

ldd_z_decodes : TwoFields 32 64 plain plain (displaced 0x8000) (λ d q. instrs.Moves (LddZ d q))
ldd_z_decodes next = refl

ldd_y_decodes : TwoFields 32 64 plain plain (displaced 0x8008) (λ d q. instrs.Moves (LddY d q))
ldd_y_decodes next = refl

std_z_decodes : TwoFields 32 64 plain plain (displaced 0x8200) (λ d q. instrs.Moves (StdZ d q))
std_z_decodes next = refl

std_y_decodes : TwoFields 32 64 plain plain (displaced 0x8208) (λ d q. instrs.Moves (StdY d q))
std_y_decodes next = refl

lds_decodes : OneField 32 (one_register 0x9000) (λ d next. Ok (instrs.Moves (Lds d next)))
lds_decodes next = refl

ld_decodes : (p : Pointer) → OneField 32 (λ d. at_pointer 0x9000 d p) (λ d next. checked (instrs.Moves (Ld d p)))
ld_decodes ZInc next = refl
ld_decodes ZDec next = refl
ld_decodes YInc next = refl
ld_decodes YDec next = refl
ld_decodes X next = refl
ld_decodes XInc next = refl
ld_decodes XDec next = refl

lpm_z_decodes : OneField 32 (one_register 0x9004) (λ d next. Ok (instrs.Moves (LpmZ d)))
lpm_z_decodes next = refl

lpm_zinc_decodes : OneField 30 (one_register 0x9005) (λ d next. Ok (instrs.Moves (LpmZInc d)))
lpm_zinc_decodes next = refl

pop_decodes : OneField 32 (one_register 0x900F) (λ d next. Ok (instrs.Moves (Pop d)))
pop_decodes next = refl

sts_decodes : OneField 32 (one_register 0x9200) (λ d next. Ok (instrs.Moves (Sts d next)))
sts_decodes next = refl

st_decodes : (p : Pointer) → OneField 32 (λ d. at_pointer 0x9200 d p) (λ d next. checked (instrs.Moves (St d p)))
st_decodes ZInc next = refl
st_decodes ZDec next = refl
st_decodes YInc next = refl
st_decodes YDec next = refl
st_decodes X next = refl
st_decodes XInc next = refl
st_decodes XDec next = refl

push_decodes : OneField 32 (one_register 0x920F) (λ d next. Ok (instrs.Moves (Push d)))
push_decodes next = refl

lpm_decodes : (next : ℕ) → decoded 0x95C8 next ≡ Ok (instrs.Moves Lpm)
unfolding decoded
lpm_decodes next = refl

in_decodes : TwoFields 32 64 plain plain (with_place 0xB000) (λ d a. instrs.Moves (In d a))
in_decodes next = refl

out_decodes : TwoFields 32 64 plain plain (with_place 0xB800) (λ d a. instrs.Moves (Out d a))
out_decodes next = refl

ldi_decodes : TwoFields 16 256 upper plain (with_constant 0xE000) (λ d k. instrs.Moves (Ldi d k))
ldi_decodes next = refl

pub move_decodes : (next : ℕ) (instr : Moves) → IsMove instr → decoded (move_word instr) (unwrap_or (move_next instr) next) ≡ Ok (instrs.Moves instr)
move_decodes next (Movw d r) fit = pairs (two_pairs 0x0100) (λ d r. instrs.Moves (Movw d r)) movw_decodes next d r fit
move_decodes next (Mov d r) fit = registers (two_registers 0x2C00) (λ d r. instrs.Moves (Mov d r)) mov_decodes next d r fit
move_decodes next (LddZ d q) fit = fields_below 32 64 (displaced 0x8000) (λ d q. instrs.Moves (LddZ d q)) ldd_z_decodes next d q fit
move_decodes next (LddY d q) fit = fields_below 32 64 (displaced 0x8008) (λ d q. instrs.Moves (LddY d q)) ldd_y_decodes next d q fit
move_decodes next (StdZ d q) fit = fields_below 32 64 (displaced 0x8200) (λ d q. instrs.Moves (StdZ d q)) std_z_decodes next d q fit
move_decodes next (StdY d q) fit = fields_below 32 64 (displaced 0x8208) (λ d q. instrs.Moves (StdY d q)) std_y_decodes next d q fit
move_decodes next (Lds d k) fit = one_field 32 (one_register 0x9000) (λ d next. Ok (instrs.Moves (Lds d next))) lds_decodes k d fit.0
move_decodes next (Ld d p) fit =
    one_field 32 (λ d. at_pointer 0x9000 d p) (λ d next. checked (instrs.Moves (Ld d p))) (ld_decodes p) next d fit.0 ∙ is_checked (instrs.Moves (Ld d p)) fit.1
move_decodes next (LpmZ d) fit = field_below 32 (one_register 0x9004) (λ d. instrs.Moves (LpmZ d)) lpm_z_decodes next d fit
move_decodes next (LpmZInc d) fit = field_below 30 (one_register 0x9005) (λ d. instrs.Moves (LpmZInc d)) lpm_zinc_decodes next d fit
move_decodes next (Pop d) fit = field_below 32 (one_register 0x900F) (λ d. instrs.Moves (Pop d)) pop_decodes next d fit
move_decodes next (Sts d k) fit = one_field 32 (one_register 0x9200) (λ d next. Ok (instrs.Moves (Sts d next))) sts_decodes k d fit.0
move_decodes next (St d p) fit =
    one_field 32 (λ d. at_pointer 0x9200 d p) (λ d next. checked (instrs.Moves (St d p))) (st_decodes p) next d fit.0 ∙ is_checked (instrs.Moves (St d p)) fit.1
move_decodes next (Push d) fit = field_below 32 (one_register 0x920F) (λ d. instrs.Moves (Push d)) push_decodes next d fit
move_decodes next Lpm fit = lpm_decodes next
move_decodes next (In d a) fit = fields_below 32 64 (with_place 0xB000) (λ d a. instrs.Moves (In d a)) in_decodes next d a fit
move_decodes next (Out d a) fit = fields_below 32 64 (with_place 0xB800) (λ d a. instrs.Moves (Out d a)) out_decodes next d a fit
move_decodes next (Ldi d k) fit = constants (with_constant 0xE000) (λ d k. instrs.Moves (Ldi d k)) ldi_decodes next d k fit

-- The words of jumps, calls, branches and skips are decoded to them again.
use Rattle.std.proofs.Common.{◌≡◌, ℕ, ◌+◌, ◌*◌, ◌/◌, ◌%◌, ◌<◌, ◌≤◌, refl, ap, ◌∙◌, arith, ◌-◌, ℤ, pos, negsuc, true, false}
use Rattle.std.specs.Prelude.{Ok, unwrap_or, nat_lt}
use Rattle.std.proofs.lemmas.Int.{ints}
use Rattle.std.proofs.lemmas.Bool.Decides.{nat_tests}
use Rattle.avr_table.specs.Decoded.{decoded}
use Rattle.avr_table.specs.WellFormed.{IsJump, IsNear, IsBranch}
use Rattle.avr_table.specs.Row.{signed}
use Rattle.avr_table.specs.declared.instr.Jumps.{Jumps}
use Rattle.avr_table.specs.declared.instr.Instr.TheVariants as instrs
use Rattle.avr_table.specs.declared.instr.Jumps.TheVariants.{Cpse, Ret, Reti, Ijmp, Icall, Jmp, Call, Sbic, Sbis, Rjmp, Rcall, Brbs, Brbc, Sbrc, Sbrs}
use Rattle.avr_enc.specs.Shapes.{place_bit, register_bit, seven_bits, twelve_bits, two_registers}
use Rattle.avr_enc.specs.Words.{jump_word, jump_next}
use Rattle.avr_enc.proofs.Fields.{OneField, TwoFields, fields_below, one_field, plain, registers}

-- Signed fields, there and back.
below_test : (n m : ℕ) → n < m → nat_lt n m ≡ true
below_test n m h = grind (arith, nat_tests)

above_test : (n m : ℕ) → m ≤ n → nat_lt n m ≡ false
above_test n m h = grind (arith, nat_tests)

twelve_bits_fit : (k : ℤ) → IsNear k → twelve_bits k < 4096
twelve_bits_fit (pos n) fit = omega (arith, ints)
twelve_bits_fit (negsuc n) fit = omega arith

signed-twelve_bits : (k : ℤ) → IsNear k → signed 12 (twelve_bits k) ≡ k
signed-twelve_bits (pos n) fit = rw (below_test n 2048 (omega (arith, ints))) refl
signed-twelve_bits (negsuc n) fit =
    let low : n ≤ 2047 = omega (arith, ints) in
    rw (above_test (4095 - n) 2048 (omega arith)) (ap negsuc (omega arith))

seven_bits_fit : (s : ℕ) (k : ℤ) → IsBranch s k → seven_bits k < 128
seven_bits_fit s (pos n) fit = omega (arith, ints)
seven_bits_fit s (negsuc n) fit = omega arith

signed-seven_bits : (s : ℕ) (k : ℤ) → IsBranch s k → signed 7 (seven_bits k) ≡ k
signed-seven_bits s (pos n) fit = rw (below_test n 64 (omega (arith, ints))) refl
signed-seven_bits s (negsuc n) fit =
    let low : n ≤ 63 = omega (arith, ints) in
    rw (above_test (127 - n) 64 (omega arith)) (ap negsuc (omega arith))

cpse_decodes : TwoFields 32 32 plain plain (two_registers 0x1000) (λ d r. instrs.Jumps (Cpse d r))
cpse_decodes next = refl

ret_decodes : (next : ℕ) → decoded 0x9508 next ≡ Ok (instrs.Jumps Ret)
unfolding decoded
ret_decodes next = refl

reti_decodes : (next : ℕ) → decoded 0x9518 next ≡ Ok (instrs.Jumps Reti)
unfolding decoded
reti_decodes next = refl

ijmp_decodes : (next : ℕ) → decoded 0x9409 next ≡ Ok (instrs.Jumps Ijmp)
unfolding decoded
ijmp_decodes next = refl

icall_decodes : (next : ℕ) → decoded 0x9509 next ≡ Ok (instrs.Jumps Icall)
unfolding decoded
icall_decodes next = refl

jmp_decodes : OneField 64 (λ h. 0x940C + h / 2 * 16 + h % 2) (λ h next. Ok (instrs.Jumps (Jmp (65536 * h + next))))
jmp_decodes next = refl

call_decodes : OneField 64 (λ h. 0x940E + h / 2 * 16 + h % 2) (λ h next. Ok (instrs.Jumps (Call (65536 * h + next))))
call_decodes next = refl

sbic_decodes : TwoFields 32 8 plain plain (place_bit 0x9900) (λ a b. instrs.Jumps (Sbic a b))
sbic_decodes next = refl

sbis_decodes : TwoFields 32 8 plain plain (place_bit 0x9B00) (λ a b. instrs.Jumps (Sbis a b))
sbis_decodes next = refl

rjmp_decodes : OneField 4096 (λ n. 0xC000 + n) (λ n next. Ok (instrs.Jumps (Rjmp (signed 12 n))))
rjmp_decodes next = refl

rcall_decodes : OneField 4096 (λ n. 0xD000 + n) (λ n next. Ok (instrs.Jumps (Rcall (signed 12 n))))
rcall_decodes next = refl

brbs_decodes : TwoFields 128 8 plain plain (λ n s. 0xF000 + n * 8 + s) (λ n s. instrs.Jumps (Brbs s (signed 7 n)))
brbs_decodes next = refl

brbc_decodes : TwoFields 128 8 plain plain (λ n s. 0xF400 + n * 8 + s) (λ n s. instrs.Jumps (Brbc s (signed 7 n)))
brbc_decodes next = refl

sbrc_decodes : TwoFields 32 8 plain plain (register_bit 0xFC00) (λ d b. instrs.Jumps (Sbrc d b))
sbrc_decodes next = refl

sbrs_decodes : TwoFields 32 8 plain plain (register_bit 0xFE00) (λ d b. instrs.Jumps (Sbrs d b))
sbrs_decodes next = refl

pub jump_decodes : (next : ℕ) (instr : Jumps) → IsJump instr → decoded (jump_word instr) (unwrap_or (jump_next instr) next) ≡ Ok (instrs.Jumps instr)
jump_decodes next (Cpse d r) fit = registers (two_registers 0x1000) (λ d r. instrs.Jumps (Cpse d r)) cpse_decodes next d r fit
jump_decodes next Ret fit = ret_decodes next
jump_decodes next Reti fit = reti_decodes next
jump_decodes next Ijmp fit = ijmp_decodes next
jump_decodes next Icall fit = icall_decodes next
jump_decodes next (Jmp k) fit =
    one_field 64 (λ h. 0x940C + h / 2 * 16 + h % 2) (λ h next. Ok (instrs.Jumps (Jmp (65536 * h + next)))) jmp_decodes (k % 65536) (k / 65536) (omega arith)
    ∙ ap (λ k. Ok (instrs.Jumps (Jmp k))) (omega arith)
jump_decodes next (Call k) fit =
    one_field 64 (λ h. 0x940E + h / 2 * 16 + h % 2) (λ h next. Ok (instrs.Jumps (Call (65536 * h + next)))) call_decodes (k % 65536) (k / 65536) (omega arith)
    ∙ ap (λ k. Ok (instrs.Jumps (Call k))) (omega arith)
jump_decodes next (Sbic a b) fit = fields_below 32 8 (place_bit 0x9900) (λ a b. instrs.Jumps (Sbic a b)) sbic_decodes next a b fit
jump_decodes next (Sbis a b) fit = fields_below 32 8 (place_bit 0x9B00) (λ a b. instrs.Jumps (Sbis a b)) sbis_decodes next a b fit
jump_decodes next (Rjmp k) fit =
    one_field 4096 (λ n. 0xC000 + n) (λ n next. Ok (instrs.Jumps (Rjmp (signed 12 n)))) rjmp_decodes next (twelve_bits k) (twelve_bits_fit k fit)
    ∙ ap (λ k. Ok (instrs.Jumps (Rjmp k))) (signed-twelve_bits k fit)
jump_decodes next (Rcall k) fit =
    one_field 4096 (λ n. 0xD000 + n) (λ n next. Ok (instrs.Jumps (Rcall (signed 12 n)))) rcall_decodes next (twelve_bits k) (twelve_bits_fit k fit)
    ∙ ap (λ k. Ok (instrs.Jumps (Rcall k))) (signed-twelve_bits k fit)
jump_decodes next (Brbs s k) fit =
    fields_below 128 8 (λ n s. 0xF000 + n * 8 + s) (λ n s. instrs.Jumps (Brbs s (signed 7 n))) brbs_decodes next (seven_bits k) s (seven_bits_fit s k fit, fit.0)
    ∙ ap (λ k. Ok (instrs.Jumps (Brbs s k))) (signed-seven_bits s k fit)
jump_decodes next (Brbc s k) fit =
    fields_below 128 8 (λ n s. 0xF400 + n * 8 + s) (λ n s. instrs.Jumps (Brbc s (signed 7 n))) brbc_decodes next (seven_bits k) s (seven_bits_fit s k fit, fit.0)
    ∙ ap (λ k. Ok (instrs.Jumps (Brbc s k))) (signed-seven_bits s k fit)
jump_decodes next (Sbrc d b) fit = fields_below 32 8 (register_bit 0xFC00) (λ d b. instrs.Jumps (Sbrc d b)) sbrc_decodes next d b fit
jump_decodes next (Sbrs d b) fit = fields_below 32 8 (register_bit 0xFE00) (λ d b. instrs.Jumps (Sbrs d b)) sbrs_decodes next d b fit

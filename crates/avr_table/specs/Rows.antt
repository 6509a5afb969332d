-- The instruction table: a row a line, read beside the AVR Instruction Set Manual. The opcode stands as the
-- manual prints it, then the instruction with its fields. Registers that the manual numbers 16 to 31, 16 to 23,
-- by pairs or from 24 on are written by their real numbers.
use Rattle.std.specs.Prelude.{◌+◌, ◌*◌, List, [], ◌∷◌, codes}
use Rattle.avr_table.specs.Row.{Row, row, row_with_next, signed, d, r, k, q, s, b, A, K}
use Rattle.avr_table.specs.declared.instr.Instr.TheVariants.{Sums, Products, Logic, Moves, Jumps, Bits}
use Rattle.avr_table.specs.declared.instr.Sums.TheVariants as sums
use Rattle.avr_table.specs.declared.instr.Products.TheVariants as products
use Rattle.avr_table.specs.declared.instr.Logic.TheVariants as logic
use Rattle.avr_table.specs.declared.instr.Moves.TheVariants as moves
use Rattle.avr_table.specs.declared.instr.Jumps.TheVariants as jumps
use Rattle.avr_table.specs.declared.instr.Bits.TheVariants as bits
use Rattle.avr_table.specs.declared.instr.Pointer.TheVariants as pointers

-- All rows, in the order of their opcodes. `of` gives the field of a letter, `next` is the word after this one.
abbrev pub rows : List Row
rows =
    row (codes "0000 0000 0000 0000") (λ of next. Bits bits.Nop) ∷
    row (codes "0000 0001 dddd rrrr") (λ of next. Moves (moves.Movw (2 * of d) (2 * of r))) ∷
    row (codes "0000 0010 dddd rrrr") (λ of next. Products (products.Muls (16 + of d) (16 + of r))) ∷
    row (codes "0000 0011 0ddd 0rrr") (λ of next. Products (products.Mulsu (16 + of d) (16 + of r))) ∷
    row (codes "0000 0011 0ddd 1rrr") (λ of next. Products (products.Fmul (16 + of d) (16 + of r))) ∷
    row (codes "0000 0011 1ddd 0rrr") (λ of next. Products (products.Fmuls (16 + of d) (16 + of r))) ∷
    row (codes "0000 0011 1ddd 1rrr") (λ of next. Products (products.Fmulsu (16 + of d) (16 + of r))) ∷
    row (codes "0000 01rd dddd rrrr") (λ of next. Sums (sums.Cpc (of d) (of r))) ∷
    row (codes "0000 10rd dddd rrrr") (λ of next. Sums (sums.Sbc (of d) (of r))) ∷
    row (codes "0000 11rd dddd rrrr") (λ of next. Sums (sums.Add (of d) (of r))) ∷
    row (codes "0001 00rd dddd rrrr") (λ of next. Jumps (jumps.Cpse (of d) (of r))) ∷
    row (codes "0001 01rd dddd rrrr") (λ of next. Sums (sums.Cp (of d) (of r))) ∷
    row (codes "0001 10rd dddd rrrr") (λ of next. Sums (sums.Sub (of d) (of r))) ∷
    row (codes "0001 11rd dddd rrrr") (λ of next. Sums (sums.Adc (of d) (of r))) ∷
    row (codes "0010 00rd dddd rrrr") (λ of next. Logic (logic.And (of d) (of r))) ∷
    row (codes "0010 01rd dddd rrrr") (λ of next. Logic (logic.Eor (of d) (of r))) ∷
    row (codes "0010 10rd dddd rrrr") (λ of next. Logic (logic.Or (of d) (of r))) ∷
    row (codes "0010 11rd dddd rrrr") (λ of next. Moves (moves.Mov (of d) (of r))) ∷
    row (codes "0011 KKKK dddd KKKK") (λ of next. Sums (sums.Cpi (16 + of d) (of K))) ∷
    row (codes "0100 KKKK dddd KKKK") (λ of next. Sums (sums.Sbci (16 + of d) (of K))) ∷
    row (codes "0101 KKKK dddd KKKK") (λ of next. Sums (sums.Subi (16 + of d) (of K))) ∷
    row (codes "0110 KKKK dddd KKKK") (λ of next. Logic (logic.Ori (16 + of d) (of K))) ∷
    row (codes "0111 KKKK dddd KKKK") (λ of next. Logic (logic.Andi (16 + of d) (of K))) ∷
    row (codes "10q0 qq0d dddd 0qqq") (λ of next. Moves (moves.LddZ (of d) (of q))) ∷
    row (codes "10q0 qq0d dddd 1qqq") (λ of next. Moves (moves.LddY (of d) (of q))) ∷
    row (codes "10q0 qq1d dddd 0qqq") (λ of next. Moves (moves.StdZ (of d) (of q))) ∷
    row (codes "10q0 qq1d dddd 1qqq") (λ of next. Moves (moves.StdY (of d) (of q))) ∷
    row_with_next (codes "1001 000d dddd 0000") (λ of next. Moves (moves.Lds (of d) next)) ∷
    row (codes "1001 000d dddd 0001") (λ of next. Moves (moves.Ld (of d) pointers.ZInc)) ∷
    row (codes "1001 000d dddd 0010") (λ of next. Moves (moves.Ld (of d) pointers.ZDec)) ∷
    row (codes "1001 000d dddd 1001") (λ of next. Moves (moves.Ld (of d) pointers.YInc)) ∷
    row (codes "1001 000d dddd 1010") (λ of next. Moves (moves.Ld (of d) pointers.YDec)) ∷
    row (codes "1001 000d dddd 1100") (λ of next. Moves (moves.Ld (of d) pointers.X)) ∷
    row (codes "1001 000d dddd 1101") (λ of next. Moves (moves.Ld (of d) pointers.XInc)) ∷
    row (codes "1001 000d dddd 1110") (λ of next. Moves (moves.Ld (of d) pointers.XDec)) ∷
    row (codes "1001 000d dddd 0100") (λ of next. Moves (moves.LpmZ (of d))) ∷
    row (codes "1001 000d dddd 0101") (λ of next. Moves (moves.LpmZInc (of d))) ∷
    row (codes "1001 000d dddd 1111") (λ of next. Moves (moves.Pop (of d))) ∷
    row_with_next (codes "1001 001d dddd 0000") (λ of next. Moves (moves.Sts (of d) next)) ∷
    row (codes "1001 001d dddd 0001") (λ of next. Moves (moves.St (of d) pointers.ZInc)) ∷
    row (codes "1001 001d dddd 0010") (λ of next. Moves (moves.St (of d) pointers.ZDec)) ∷
    row (codes "1001 001d dddd 1001") (λ of next. Moves (moves.St (of d) pointers.YInc)) ∷
    row (codes "1001 001d dddd 1010") (λ of next. Moves (moves.St (of d) pointers.YDec)) ∷
    row (codes "1001 001d dddd 1100") (λ of next. Moves (moves.St (of d) pointers.X)) ∷
    row (codes "1001 001d dddd 1101") (λ of next. Moves (moves.St (of d) pointers.XInc)) ∷
    row (codes "1001 001d dddd 1110") (λ of next. Moves (moves.St (of d) pointers.XDec)) ∷
    row (codes "1001 001d dddd 1111") (λ of next. Moves (moves.Push (of d))) ∷
    row (codes "1001 010d dddd 0000") (λ of next. Logic (logic.Com (of d))) ∷
    row (codes "1001 010d dddd 0001") (λ of next. Sums (sums.Neg (of d))) ∷
    row (codes "1001 010d dddd 0010") (λ of next. Logic (logic.Swap (of d))) ∷
    row (codes "1001 010d dddd 0011") (λ of next. Sums (sums.Inc (of d))) ∷
    row (codes "1001 010d dddd 0101") (λ of next. Logic (logic.Asr (of d))) ∷
    row (codes "1001 010d dddd 0110") (λ of next. Logic (logic.Lsr (of d))) ∷
    row (codes "1001 010d dddd 0111") (λ of next. Logic (logic.Ror (of d))) ∷
    row (codes "1001 010d dddd 1010") (λ of next. Sums (sums.Dec (of d))) ∷
    row (codes "1001 0100 0sss 1000") (λ of next. Bits (bits.Bset (of s))) ∷
    row (codes "1001 0100 1sss 1000") (λ of next. Bits (bits.Bclr (of s))) ∷
    row (codes "1001 0101 0000 1000") (λ of next. Jumps jumps.Ret) ∷
    row (codes "1001 0101 0001 1000") (λ of next. Jumps jumps.Reti) ∷
    row (codes "1001 0101 1000 1000") (λ of next. Bits bits.Sleep) ∷
    row (codes "1001 0101 1001 1000") (λ of next. Bits bits.Break) ∷
    row (codes "1001 0101 1010 1000") (λ of next. Bits bits.Wdr) ∷
    row (codes "1001 0101 1100 1000") (λ of next. Moves moves.Lpm) ∷
    row (codes "1001 0101 1110 1000") (λ of next. Bits bits.Spm) ∷
    row (codes "1001 0100 0000 1001") (λ of next. Jumps jumps.Ijmp) ∷
    row (codes "1001 0101 0000 1001") (λ of next. Jumps jumps.Icall) ∷
    row_with_next (codes "1001 010k kkkk 110k") (λ of next. Jumps (jumps.Jmp (65536 * of k + next))) ∷
    row_with_next (codes "1001 010k kkkk 111k") (λ of next. Jumps (jumps.Call (65536 * of k + next))) ∷
    row (codes "1001 0110 KKdd KKKK") (λ of next. Sums (sums.Adiw (24 + 2 * of d) (of K))) ∷
    row (codes "1001 0111 KKdd KKKK") (λ of next. Sums (sums.Sbiw (24 + 2 * of d) (of K))) ∷
    row (codes "1001 1000 AAAA Abbb") (λ of next. Bits (bits.Cbi (of A) (of b))) ∷
    row (codes "1001 1001 AAAA Abbb") (λ of next. Jumps (jumps.Sbic (of A) (of b))) ∷
    row (codes "1001 1010 AAAA Abbb") (λ of next. Bits (bits.Sbi (of A) (of b))) ∷
    row (codes "1001 1011 AAAA Abbb") (λ of next. Jumps (jumps.Sbis (of A) (of b))) ∷
    row (codes "1001 11rd dddd rrrr") (λ of next. Products (products.Mul (of d) (of r))) ∷
    row (codes "1011 0AAd dddd AAAA") (λ of next. Moves (moves.In (of d) (of A))) ∷
    row (codes "1011 1AAd dddd AAAA") (λ of next. Moves (moves.Out (of d) (of A))) ∷
    row (codes "1100 kkkk kkkk kkkk") (λ of next. Jumps (jumps.Rjmp (signed 12 (of k)))) ∷
    row (codes "1101 kkkk kkkk kkkk") (λ of next. Jumps (jumps.Rcall (signed 12 (of k)))) ∷
    row (codes "1110 KKKK dddd KKKK") (λ of next. Moves (moves.Ldi (16 + of d) (of K))) ∷
    row (codes "1111 00kk kkkk ksss") (λ of next. Jumps (jumps.Brbs (of s) (signed 7 (of k)))) ∷
    row (codes "1111 01kk kkkk ksss") (λ of next. Jumps (jumps.Brbc (of s) (signed 7 (of k)))) ∷
    row (codes "1111 100d dddd 0bbb") (λ of next. Bits (bits.Bld (of d) (of b))) ∷
    row (codes "1111 101d dddd 0bbb") (λ of next. Bits (bits.Bst (of d) (of b))) ∷
    row (codes "1111 110d dddd 0bbb") (λ of next. Jumps (jumps.Sbrc (of d) (of b))) ∷
    row (codes "1111 111d dddd 0bbb") (λ of next. Jumps (jumps.Sbrs (of d) (of b))) ∷
    []

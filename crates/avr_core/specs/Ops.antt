-- Instructions in the form in which a core runs them: one list of them all, each with its fields.
use Rattle.std.specs.Prelude.{◌≡◌, ℕ, ◌==◌, List, Bool, true, false, Result, Ok, Err, IfOk}
use Rattle.avr_core.specs.Meaning.{executed}
use Rattle.avr_core.specs.declared.cpu.Core.{Core}
use Rattle.avr_core.specs.declared.op.Op.{Op}
use Rattle.avr_core.specs.declared.op.Op.TheVariants as ops
use Rattle.avr_table.specs.WellFormed.{IsWellFormed}
use Rattle.avr_table.specs.declared.fault.DecodeFault.{DecodeFault}
use Rattle.avr_table.specs.declared.fault.DecodeFault.TheVariants as faults
use Rattle.avr_table.specs.declared.instr.Instr.{Instr}
use Rattle.avr_table.specs.declared.instr.Instr.TheVariants as instrs
use Rattle.avr_table.specs.declared.instr.Pointer.TheVariants as pointers
use Rattle.avr_table.specs.declared.instr.Sums.TheVariants as sums
use Rattle.avr_table.specs.declared.instr.Products.TheVariants as products
use Rattle.avr_table.specs.declared.instr.Logic.TheVariants as logic
use Rattle.avr_table.specs.declared.instr.Moves.TheVariants as moves
use Rattle.avr_table.specs.declared.instr.Jumps.TheVariants as jumps
use Rattle.avr_table.specs.declared.instr.Bits.TheVariants as bits

-- The instruction that an op stands for, or why it is none.
abbrev pub instr_of : Op → Result Instr DecodeFault
instr_of (ops.Cpc d r) = Ok (instrs.Sums (sums.Cpc d r))
instr_of (ops.Sbc d r) = Ok (instrs.Sums (sums.Sbc d r))
instr_of (ops.Add d r) = Ok (instrs.Sums (sums.Add d r))
instr_of (ops.Cp d r) = Ok (instrs.Sums (sums.Cp d r))
instr_of (ops.Sub d r) = Ok (instrs.Sums (sums.Sub d r))
instr_of (ops.Adc d r) = Ok (instrs.Sums (sums.Adc d r))
instr_of (ops.Cpi d k) = Ok (instrs.Sums (sums.Cpi d k))
instr_of (ops.Sbci d k) = Ok (instrs.Sums (sums.Sbci d k))
instr_of (ops.Subi d k) = Ok (instrs.Sums (sums.Subi d k))
instr_of (ops.Neg d) = Ok (instrs.Sums (sums.Neg d))
instr_of (ops.Inc d) = Ok (instrs.Sums (sums.Inc d))
instr_of (ops.Dec d) = Ok (instrs.Sums (sums.Dec d))
instr_of (ops.Adiw d k) = Ok (instrs.Sums (sums.Adiw d k))
instr_of (ops.Sbiw d k) = Ok (instrs.Sums (sums.Sbiw d k))
instr_of (ops.Muls d r) = Ok (instrs.Products (products.Muls d r))
instr_of (ops.Mulsu d r) = Ok (instrs.Products (products.Mulsu d r))
instr_of (ops.Fmul d r) = Ok (instrs.Products (products.Fmul d r))
instr_of (ops.Fmuls d r) = Ok (instrs.Products (products.Fmuls d r))
instr_of (ops.Fmulsu d r) = Ok (instrs.Products (products.Fmulsu d r))
instr_of (ops.Mul d r) = Ok (instrs.Products (products.Mul d r))
instr_of (ops.And d r) = Ok (instrs.Logic (logic.And d r))
instr_of (ops.Eor d r) = Ok (instrs.Logic (logic.Eor d r))
instr_of (ops.Or d r) = Ok (instrs.Logic (logic.Or d r))
instr_of (ops.Ori d k) = Ok (instrs.Logic (logic.Ori d k))
instr_of (ops.Andi d k) = Ok (instrs.Logic (logic.Andi d k))
instr_of (ops.Com d) = Ok (instrs.Logic (logic.Com d))
instr_of (ops.Swap d) = Ok (instrs.Logic (logic.Swap d))
instr_of (ops.Asr d) = Ok (instrs.Logic (logic.Asr d))
instr_of (ops.Lsr d) = Ok (instrs.Logic (logic.Lsr d))
instr_of (ops.Ror d) = Ok (instrs.Logic (logic.Ror d))
instr_of (ops.Movw d r) = Ok (instrs.Moves (moves.Movw d r))
instr_of (ops.Mov d r) = Ok (instrs.Moves (moves.Mov d r))
instr_of (ops.Ldi d k) = Ok (instrs.Moves (moves.Ldi d k))
instr_of (ops.LddZ d q) = Ok (instrs.Moves (moves.LddZ d q))
instr_of (ops.LddY d q) = Ok (instrs.Moves (moves.LddY d q))
instr_of (ops.StdZ d q) = Ok (instrs.Moves (moves.StdZ d q))
instr_of (ops.StdY d q) = Ok (instrs.Moves (moves.StdY d q))
instr_of (ops.Lds d k) = Ok (instrs.Moves (moves.Lds d k))
instr_of (ops.Sts d k) = Ok (instrs.Moves (moves.Sts d k))
instr_of (ops.LdZInc d) = Ok (instrs.Moves (moves.Ld d pointers.ZInc))
instr_of (ops.LdZDec d) = Ok (instrs.Moves (moves.Ld d pointers.ZDec))
instr_of (ops.LdYInc d) = Ok (instrs.Moves (moves.Ld d pointers.YInc))
instr_of (ops.LdYDec d) = Ok (instrs.Moves (moves.Ld d pointers.YDec))
instr_of (ops.LdX d) = Ok (instrs.Moves (moves.Ld d pointers.X))
instr_of (ops.LdXInc d) = Ok (instrs.Moves (moves.Ld d pointers.XInc))
instr_of (ops.LdXDec d) = Ok (instrs.Moves (moves.Ld d pointers.XDec))
instr_of (ops.StZInc r) = Ok (instrs.Moves (moves.St r pointers.ZInc))
instr_of (ops.StZDec r) = Ok (instrs.Moves (moves.St r pointers.ZDec))
instr_of (ops.StYInc r) = Ok (instrs.Moves (moves.St r pointers.YInc))
instr_of (ops.StYDec r) = Ok (instrs.Moves (moves.St r pointers.YDec))
instr_of (ops.StX r) = Ok (instrs.Moves (moves.St r pointers.X))
instr_of (ops.StXInc r) = Ok (instrs.Moves (moves.St r pointers.XInc))
instr_of (ops.StXDec r) = Ok (instrs.Moves (moves.St r pointers.XDec))
instr_of (ops.LpmZ d) = Ok (instrs.Moves (moves.LpmZ d))
instr_of (ops.LpmZInc d) = Ok (instrs.Moves (moves.LpmZInc d))
instr_of (ops.Pop d) = Ok (instrs.Moves (moves.Pop d))
instr_of (ops.Push d) = Ok (instrs.Moves (moves.Push d))
instr_of (ops.In d a) = Ok (instrs.Moves (moves.In d a))
instr_of (ops.Out d a) = Ok (instrs.Moves (moves.Out d a))
instr_of (ops.Cpse d r) = Ok (instrs.Jumps (jumps.Cpse d r))
instr_of ops.Ret = Ok (instrs.Jumps jumps.Ret)
instr_of ops.Reti = Ok (instrs.Jumps jumps.Reti)
instr_of ops.Ijmp = Ok (instrs.Jumps jumps.Ijmp)
instr_of ops.Icall = Ok (instrs.Jumps jumps.Icall)
instr_of (ops.Jmp k) = Ok (instrs.Jumps (jumps.Jmp k))
instr_of (ops.Call k) = Ok (instrs.Jumps (jumps.Call k))
instr_of (ops.Sbic a b) = Ok (instrs.Jumps (jumps.Sbic a b))
instr_of (ops.Sbis a b) = Ok (instrs.Jumps (jumps.Sbis a b))
instr_of (ops.Rjmp k) = Ok (instrs.Jumps (jumps.Rjmp k))
instr_of (ops.Rcall k) = Ok (instrs.Jumps (jumps.Rcall k))
instr_of (ops.Brbs s k) = Ok (instrs.Jumps (jumps.Brbs s k))
instr_of (ops.Brbc s k) = Ok (instrs.Jumps (jumps.Brbc s k))
instr_of (ops.Sbrc d b) = Ok (instrs.Jumps (jumps.Sbrc d b))
instr_of (ops.Sbrs d b) = Ok (instrs.Jumps (jumps.Sbrs d b))
instr_of ops.Nop = Ok (instrs.Bits bits.Nop)
instr_of (ops.Bset s) = Ok (instrs.Bits (bits.Bset s))
instr_of (ops.Bclr s) = Ok (instrs.Bits (bits.Bclr s))
instr_of ops.Sleep = Ok (instrs.Bits bits.Sleep)
instr_of ops.Break = Ok (instrs.Bits bits.Break)
instr_of ops.Spm = Ok (instrs.Bits bits.Spm)
instr_of (ops.Cbi a b) = Ok (instrs.Bits (bits.Cbi a b))
instr_of (ops.Sbi a b) = Ok (instrs.Bits (bits.Sbi a b))
instr_of (ops.Bld d b) = Ok (instrs.Bits (bits.Bld d b))
instr_of (ops.Bst d b) = Ok (instrs.Bits (bits.Bst d b))
instr_of ops.Sei = Ok (instrs.Bits (bits.Bset 7))
instr_of ops.Illegal = Err faults.Illegal
instr_of ops.Undefined = Err faults.Undefined

-- Whether what was decoded is SEI (BSET 7) or RETI: the instruction behind it runs before any interrupt.
abbrev pub is_owing : Result Instr DecodeFault → Bool
is_owing (Ok (instrs.Bits (bits.Bset s))) = s == 7
is_owing (Ok (instrs.Jumps jumps.Reti)) = true
is_owing _ = false

-- Whether it is SLEEP or BREAK.
abbrev pub is_resting : Result Instr DecodeFault → Bool
is_resting (Ok (instrs.Bits bits.Sleep)) = true
is_resting (Ok (instrs.Bits bits.Break)) = true
is_resting _ = false

-- Whether an op is SEI or RETI.
abbrev pub owes : Op → Bool
owes ops.Sei = true
owes ops.Reti = true
owes _ = false

-- An op stands for what was decoded: it does the same in every core, with every flash, and is SEI or RETI where that is.
pub record IsOp (op : Op) (said : Result Instr DecodeFault) : Type 0 where
  pub does : (flash : List ℕ) (word : ℕ) (core : Core) → executed flash word (instr_of op) core ≡ executed flash word said core
  pub owing : owes op ≡ is_owing said
  pub fits : IfOk (instr_of op) IsWellFormed

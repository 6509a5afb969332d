use Rattle.std.proofs.Common.{◌≡◌, ◌<◌, ◌^◌, ℕ, get_or}
use Rattle.chip_sheet.specs.Bits.{has_bit}
use Rattle.irq_lines.specs.Lines.{meets}
use Rattle.irq_lines.proofs.lines.sir.Given as goal

abbrev pub invariant-loop-n : goal.invariant-loop-n
invariant-loop-n l = (m : ℕ) → m < l.n → has_bit l.sir (2 ^ m) ≡ meets (get_or l.irs m 0) (get_or l.imrs m 0)

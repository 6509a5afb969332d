use Rattle.std.proofs.Common.{◌≡◌, ◌<◌, ℕ}
use Rattle.chip_sheet.specs.Windows.{flight}
use Rattle.chip_shared.proofs.shared.Shared.is_clear.Given as goal

abbrev pub invariant-loop-sn : goal.invariant-loop-sn
invariant-loop-sn g l = (n : ℕ) → n < l.sn → flight l.self.starts l.self.log.past n ≡ 0

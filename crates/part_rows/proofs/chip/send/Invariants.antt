use Rattle.chip_core.specs.Reached.{Reached}
use Rattle.part_rows.proofs.chip.send.Given as goal

abbrev pub invariant-loop-byte : goal.invariant-loop-byte
invariant-loop-byte g l = Reached l.bench.chip l.bench.count

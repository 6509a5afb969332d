use Rattle.chip_core.specs.Reached.{Reached}
use Rattle.part_rows.proofs.chip.play.Given as goal

abbrev pub invariant-loop-s : goal.invariant-loop-s
invariant-loop-s g l = Reached l.bench.chip l.bench.count

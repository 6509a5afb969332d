use Rattle.std.proofs.Common.{arith}
use Rattle.chip_core.proofs.Reaching.{after_bus}
use Rattle.part_rows.proofs.chip.turn.Goals as goal

pub bus-answer-requires : goal.bus-answer-requires
bus-answer-requires g c = let short = c.requires.short in c.short_is_few.ensures c.requires.starts c.args.bench.now.chip c.requires.past c.requires.stands (omega (arith, short))

pub returns : goal.returns
returns g c = after_bus c.args.bench.now.chip _ c.args.e c.bus-answer.result c.args.bench.now.count c.bus-answer.ensures.answered c.bus-answer.ensures.stopped c.requires

use Rattle.std.proofs.Common.{[], arith}
use Rattle.part_rows.proofs.chip.play_rows.Goals as goal

pub play-requires : goal.play-requires
play-requires g c = record { starts = _; past = []; stands = c.in_ok-chip.ensures.stands; short = omega arith }

use Rattle.chip_laws.proofs.IdleAnswer.{idle_high, idle_low}
use Rattle.chip_laws.proofs.answers.idle_answer.Goals as goal

pub returns : goal.returns
returns c = record { high = idle_high; low = idle_low }

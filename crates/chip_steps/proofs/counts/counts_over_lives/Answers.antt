use Rattle.chip_steps.proofs.OverLives.{sent_few, got_few, taken_few}
use Rattle.chip_steps.proofs.counts.counts_over_lives.Goals as goal

pub returns : goal.returns
returns c = record { sent = sent_few; got = got_few; taken = taken_few }

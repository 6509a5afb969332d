use Rattle.chip_steps.proofs.Growing.{by_send, sent_stays}
use Rattle.chip_steps.proofs.grows.sent_grows.Goals as goal

pub returns : goal.returns
returns c = record { by_send = by_send; stays = sent_stays }

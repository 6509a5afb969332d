use Rattle.chip_laws.proofs.SentStands.{sent_stand}
use Rattle.chip_laws.proofs.stands.sent_stands.Goals as goal

pub returns : goal.returns
returns c = sent_stand

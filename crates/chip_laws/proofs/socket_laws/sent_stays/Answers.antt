use Rattle.chip_sheet.proofs.SentLaws.{sent_front}
use Rattle.chip_laws.proofs.socket_laws.sent_stays.Goals as goal

pub returns : goal.returns
returns c = sent_front

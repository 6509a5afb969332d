use Rattle.chip_sheet.proofs.SentLaws.{sent_same, sent_other}
use Rattle.chip_laws.proofs.socket_laws.sent_by_send.Goals as goal

pub returns : goal.returns
returns c = record { other_cause = sent_same; other_life = sent_other }

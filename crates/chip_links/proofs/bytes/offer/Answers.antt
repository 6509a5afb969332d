use Rattle.std.proofs.Common.{◌∙◌}
use Rattle.chip_sheet.specs.Buffers.{sending}
use Rattle.chip_links.proofs.Offers.{in_flight_is, offered_is}
use Rattle.chip_links.proofs.bytes.offer.Goals as goal

pub returns-clause-bytes : goal.returns-clause-bytes
returns-clause-bytes c = λ starts past legal held. c.offer.ensures.bytes (sending starts past c.args.sn) (held.tx c.args.sn c.requires) ∙ in_flight_is starts past c.args.sn legal

pub returns-clause-first : goal.returns-clause-first
returns-clause-first c = λ starts past legal held. c.offer.ensures.first (sending starts past c.args.sn) (held.tx c.args.sn c.requires) ∙ offered_is starts past c.args.sn legal

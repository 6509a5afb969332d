use Rattle.chip_core.proofs.chip.Chip.offer.Goals as goal

pub returns-clause-bytes : goal.returns-clause-bytes
returns-clause-bytes c = λ starts past stands. c.offer.ensures.bytes starts past stands.legal stands.parts

pub returns-clause-first : goal.returns-clause-first
returns-clause-first c = λ starts past stands. c.offer.ensures.first starts past stands.legal stands.parts

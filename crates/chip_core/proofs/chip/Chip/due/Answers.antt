use Rattle.chip_core.proofs.chip.Chip.due.Goals as goal

pub returns : goal.returns
returns c = λ starts past stands. c.due.ensures starts past stands.parts

use Rattle.chip_core.proofs.laws.fits_agrees.Goals as goal

pub returns : goal.returns
returns c = λ starts chip past n what below stands. c.fits_agrees.ensures starts past chip.parts n what below stands.parts

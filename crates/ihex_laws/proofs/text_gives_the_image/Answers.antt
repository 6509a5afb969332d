use Rattle.ihex_laws.proofs.Texts.{text_gives}
use Rattle.ihex_laws.proofs.text_gives_the_image.Goals as goal

pub returns : goal.returns
returns c = text_gives

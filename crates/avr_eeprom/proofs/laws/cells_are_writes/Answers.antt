use Rattle.avr_eeprom.proofs.Tells.{cells-are-writes}
use Rattle.avr_eeprom.proofs.laws.cells_are_writes.Goals as goal

pub returns : goal.returns
returns c = λ operations at within. cells-are-writes operations at within

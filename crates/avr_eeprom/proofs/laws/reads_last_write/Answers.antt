use Rattle.std.proofs.Common.{◌∙◌, arith}
use Rattle.avr_eeprom.specs.Eeprom.{address}
use Rattle.avr_eeprom.specs.Laws.{after}
use Rattle.avr_eeprom.proofs.Tells.{cells-are-writes, reads-last-write}
use Rattle.avr_eeprom.proofs.laws.reads_last_write.Goals as goal

pub returns : goal.returns
returns c = λ operations control idle reads free.
    reads-last-write (after operations) control idle reads free
    ∙ cells-are-writes operations (address (after operations)) (grind arith)

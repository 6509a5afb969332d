use Rattle.avr_sheet.proofs.BitTables.{bits_make_byte}
use Rattle.avr_sheet.proofs.laws.bits_make_byte.Goals as goal

pub returns : goal.returns
returns c = bits_make_byte

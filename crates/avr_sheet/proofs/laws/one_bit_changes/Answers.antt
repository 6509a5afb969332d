use Rattle.avr_sheet.proofs.BitTables.{one_bit_changes}
use Rattle.avr_sheet.proofs.laws.one_bit_changes.Goals as goal

pub returns : goal.returns
returns c = one_bit_changes

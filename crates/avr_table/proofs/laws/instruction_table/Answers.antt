use Rattle.avr_table.proofs.Rows.{only_one_row, says_its_row, illegal_fits_none}
use Rattle.avr_table.proofs.laws.instruction_table.Goals as goal

pub returns-clause-one_row : goal.returns-clause-one_row
returns-clause-one_row c = only_one_row

pub returns-clause-row : goal.returns-clause-row
returns-clause-row c = says_its_row

pub returns-clause-illegal : goal.returns-clause-illegal
returns-clause-illegal c = illegal_fits_none

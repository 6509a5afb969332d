use Rattle.chip_sheet.proofs.AnswerLaws.{answer_fits, given_goes_on}
use Rattle.chip_laws.proofs.socket_laws.answers_fit.Goals as goal

pub returns : goal.returns
returns c = record { fits = answer_fits; given = given_goes_on }

use Rattle.std.proofs.Common.{◌∙◌, sym, subst}
use Rattle.chip_sheet.specs.Past.{Past}
use Rattle.chip_sheet.specs.Legal.{Legal}
use Rattle.board_gen.specs.Script.{no_starts}
use Rattle.board_quick.proofs.left.nothing_ran.Goals as goal

pub returns-clause-legal : goal.returns-clause-legal
returns-clause-legal c = subst (λ (p : Past). Legal no_starts p) (sym (c.ended.ensures.past ∙ c.new.ensures.past)) tt

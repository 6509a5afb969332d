use Rattle.std.proofs.Common.{◌∙◌, sym, subst}
use Rattle.chip_sheet.specs.Past.{Past}
use Rattle.chip_sheet.specs.Legal.{Legal}
use Rattle.board_gen.specs.Script.{no_starts}
use Rattle.board_quick.proofs.Shown.{line_shown}
use Rattle.board_quick.proofs.left.refuse.Goals as goal

pub returns : goal.returns
returns g c =
    let none = c.end_refused.ensures.past ∙ c.new.ensures.past in
    record {
      shows = rw none (line_shown c.args.refusal c.end_refused.result.end _ _ c.end_refused.ensures.adds);
      legal = subst (λ (p : Past). Legal no_starts p) (sym none) tt;
      script = c.end_refused.ensures.script;
      causes = c.end_refused.ensures.faults;
    }

use Rattle.std.proofs.Common.{◌==◌, sym}
use Rattle.std.proofs.lemmas.List.{take_rest}
use Rattle.board_read.proofs.Cutting.{cut_none, cut_some}
use Rattle.board_read.proofs.cuts.cut.Goals as goal

pub returns-in-Some-clause-parts : goal.returns-in-Some-clause-parts
returns-in-Some-clause-parts c = rw take_rest (cut_some (λ b. b == c.args.byte) c.args.text.now c.in-Some.at (sym c.in-Some.ensures)).1

pub returns-in-None-clause-parts : goal.returns-in-None-clause-parts
returns-in-None-clause-parts c = cut_none (λ b. b == c.args.byte) c.args.text.now (sym c.in-None.ensures)

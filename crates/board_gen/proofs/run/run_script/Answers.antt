use Rattle.board_gen.proofs.ToldLines.{end_shown}
use Rattle.board_gen.proofs.run.run_script.Goals as goal

pub returns-in-Err-WriteFault-clause-shows : goal.returns-in-Err-WriteFault-clause-shows
returns-in-Err-WriteFault-clause-shows g c =
    end_shown _ c.run_lines.result c.run_lines.new.session.past c.run_lines.new.lines _ _ _ c.in_default.not-WriteFault c.in_default.not-NoMemory c.run_lines.ensures.keeps c.in-Err-WriteFault.ensures.err

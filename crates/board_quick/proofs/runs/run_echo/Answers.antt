use Rattle.board_echo.specs.Assembly.{image_of}
use Rattle.board_echo.specs.Echo.{echo_words}
use Rattle.board_quick.specs.Runs.{echo_setup}
use Rattle.board_quick.specs.declared.words.BoardCommand.TheVariants.{Sim}
use Rattle.board_quick.proofs.Shown.{none_ran_both}
use Rattle.board_quick.proofs.runs.run_echo.Goals as goal

pub returns-in-Err-echo_board : goal.returns-in-Err-echo_board
returns-in-Err-echo_board g c =
    none_ran_both Sim (image_of echo_words) (echo_setup c.args.number) c.nothing_ran.result _ _ c.nothing_ran.ensures.end c.nothing_ran.ensures.past c.nothing_ran.ensures.script

pub returns-in-Err : goal.returns-in-Err
returns-in-Err g c =
    none_ran_both Sim (image_of echo_words) (echo_setup c.args.number) c.nothing_ran-in-Err.result _ _ c.nothing_ran-in-Err.ensures.end c.nothing_ran-in-Err.ensures.past c.nothing_ran-in-Err.ensures.script

use Rattle.board_quick.proofs.Loaded.{reports_unloaded}
use Rattle.board_quick.proofs.quick.run_board.Goals as goal

pub returns-in-Err : goal.returns-in-Err
returns-in-Err g c =
    reports_unloaded _ _ _ c.args.what c.args.image.now c.args.board.now c.load_both.result c.in-Err.error c.not_loaded.result _ _ _ _ c.load_both.ensures.loads c.in-Err.is c.not_loaded.ensures

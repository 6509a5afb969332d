use Rattle.board_top.proofs.Begun.{reports_no_run}
use Rattle.board_top.proofs.top.run.Goals as goal

pub returns-in-Err : goal.returns-in-Err
returns-in-Err g c =
    reports_no_run _ _ _ _ _ c.args.image.now c.args.board.now c.load_both.result c.in-Err.error c.not_loaded.result c.args.links c.args.poller c.beside.result _ _ _ _ c.load_both.ensures.loads c.in-Err.is c.not_loaded.ensures c.beside.ensures

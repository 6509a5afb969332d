use Rattle.board_top.proofs.Topped.{reports_else}
use Rattle.board_top.proofs.top.perform.Goals as goal

pub returns-in-Some-clause-reports : goal.returns-in-Some-clause-reports
returns-in-Some-clause-reports g c =
    reports_else _ _ _ _ _ _ c.in-Some.left c.args.links c.args.poller c.beside.result _ _ _ _ c.in-Some.ensures.reports c.beside.ensures

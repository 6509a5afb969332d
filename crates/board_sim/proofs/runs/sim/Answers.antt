use Rattle.std.proofs.Common.{ap, ◌∙◌}
use Rattle.board_sim.specs.Boards.{Board}
use Rattle.board_sim.specs.Playing.{printing}
use Rattle.board_sim.specs.Seats.{seen}
use Rattle.board_sim.proofs.Left.{begun, sim_left, sim_unmade}
use Rattle.board_sim.proofs.runs.sim.Goals as goal

pub returns-in-Ok : goal.returns-in-Ok
returns-in-Ok g c =
    let play = c.run-end.new.play in
    sim_left c.args.image c.args.board c.run-end.result play.mcu play.board play.last c.with_report.result (g.K.Sink.written c.args.out.now) (g.K.Sink.written c.run-end.new.out)
    (g.K.Sink.written c.with_report.new.out) (g.K.Sink.faults c.args.out.now) (g.K.Sink.faults c.run-end.new.out) (g.K.Sink.faults c.with_report.new.out)
    (begun c.run-end.result c.args.board c.args.image c.in-Ok.play.cycles (seen c.in-Ok.play.board) c.in-Ok.play.last play.mcu (seen play.board) (g.K.Sink.written c.args.out.now)
    (printing (g.K.Sink.written c.run-end.new.out) play.last) c.in-Ok.ensures.cycles c.in-Ok.ensures.board c.in-Ok.ensures.last
    (c.run-end.ensures.ran c.args.image c.in-Ok.ensures.mcu))
    (c.run-end.ensures.starts ∙ ap (λ (b : Board). b.starts) c.in-Ok.ensures.board) c.with_report.ensures.left c.with_report.ensures.reports c.run-end.ensures.faults
    c.with_report.ensures.faults c.with_report.ensures.still

pub returns-in-Err : goal.returns-in-Err
returns-in-Err g c =
    sim_unmade c.args.image c.args.board c.unmade.result (g.K.Sink.written c.args.out.now) (g.K.Sink.faults c.args.out.now) c.unmade.ensures.history c.unmade.ensures.links
    c.unmade.ensures.end

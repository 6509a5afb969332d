use Rattle.std.proofs.Common.{None, ap, ◌∙◌}
use Rattle.board_sim.specs.Boards.{Board}
use Rattle.board_sim.specs.Ends.{starts_of}
use Rattle.board_sim.specs.Playing.{printing}
use Rattle.board_sim.specs.Seats.{seen}
use Rattle.board_sim.proofs.Left.{begun, trace_ends, trace_unmade}
use Rattle.board_sim.proofs.runs.trace.Goals as goal

pub returns-in-Ok : goal.returns-in-Ok
returns-in-Ok g c =
    let play = c.run-end.new.play in
    let left = c.without_report-left in
    trace_ends c.args.image c.args.board c.run-end.result play.mcu play.board play.last left.result c.end_traced-end.result
    (record { tx = c.board.inside.tx_start; rx = c.board.inside.rx_start }) (g.K.Sink.written c.args.out.now) (g.K.Sink.written c.end_traced-end.new.out)
    (g.K.Sink.faults c.args.out.now) (g.K.Sink.faults c.end_traced-end.new.out) c.run-end.ensures.faults
    (begun c.run-end.result c.args.board c.args.image c.in-Ok.play.cycles (seen c.in-Ok.play.board) c.in-Ok.play.last play.mcu (seen play.board) None (printing None play.last)
    c.in-Ok.ensures.cycles c.in-Ok.ensures.board c.in-Ok.ensures.last (c.run-end.ensures.ran c.args.image c.in-Ok.ensures.mcu))
    (c.run-end.ensures.starts ∙ ap (λ (b : Board). b.starts) c.in-Ok.ensures.board) (ap starts_of c.board.view_is) left.ensures.left left.ensures.end
    c.end_traced-end.ensures.traces c.end_traced-end.ensures.faults

pub returns-in-Err : goal.returns-in-Err
returns-in-Err g c =
    trace_unmade c.args.image c.args.board c.unmade.result (g.K.Sink.written c.args.out.now) (g.K.Sink.faults c.args.out.now) c.unmade.ensures.history c.unmade.ensures.links
    c.unmade.ensures.end

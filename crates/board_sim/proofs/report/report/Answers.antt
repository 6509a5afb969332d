use Rattle.std.proofs.Common.{string_bytes}
use Rattle.board_sim.proofs.Lines.{report_whole}
use Rattle.board_sim.proofs.report.report.Goals as goal

pub returns : goal.returns
returns c = λ starts stands.
    report_whole starts c.args.history.now.past c.args.last c.args.mcu.now.devices.cycles c.args.mcu.now.trail c.args.end c.cycles.result c.count-counts.result.bus
    c.count-counts.result.link c.count-counts.result.faults (string_bytes c.new-text.result) (string_bytes c.push_line_end.new.text) (string_bytes c.push_end.new.text)
    (string_bytes c.push_number.new.text) (string_bytes c.push_number-2.new.text) (string_bytes c.push_number-3.new.text) (string_bytes c.push_sockets.new.text)
    (string_bytes c.push_number-4.new.text) (string_bytes c.push_trail.new.text) c.cycles.ensures c.count-counts.ensures.bus c.count-counts.ensures.link
    c.count-counts.ensures.faults c.new-text.ensures.bytes c.in_ok-push_line_end.ensures c.in_ok-push_end.ensures c.in_ok-push_number.ensures
    c.in_ok-push_number-2.ensures c.in_ok-push_number-3.ensures (c.in_ok-push_sockets.ensures starts c.args.history.now.past stands) c.in_ok-push_number-4.ensures
    c.in_ok-push_trail.ensures

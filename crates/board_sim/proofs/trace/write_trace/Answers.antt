use Rattle.std.proofs.Common.{◌∙◌}
use Rattle.board_sim.proofs.Traces.{on_any, trace_cut_head, trace_cut_lines, trace_cut_end, trace_whole}
use Rattle.board_sim.proofs.trace.write_trace.Goals as goal

pub returns-in_err-add-clause-err : goal.returns-in_err-add-clause-err
returns-in_err-add-clause-err g c =
    on_any c.from_residual-in_err-add.result
    (trace_cut_head (record { tx = c.args.tx_start; rx = c.args.rx_start }) c.args.history.now.past c.in_ok-lines.lines c.as_bytes.result.now
    (g.K.Sink.written c.args.out.now) (g.K.Sink.written c.add.new.out) c.in_ok-lines.ensures (c.as_bytes.ensures.value ∙ c.in_ok-head.ensures) c.in_err-add.ensures.err)

pub returns-in_err-add_entries-clause-err : goal.returns-in_err-add_entries-clause-err
returns-in_err-add_entries-clause-err g c =
    on_any c.from_residual-in_err-add_entries.result
    (trace_cut_lines (record { tx = c.args.tx_start; rx = c.args.rx_start }) c.args.history.now.past c.in_ok-lines.lines c.as_bytes.result.now c.add.new.self
    (g.K.Sink.written c.args.out.now) (g.K.Sink.written c.add.new.out) (g.K.Sink.written c.add_entries.new.out) c.in_ok-lines.ensures
    (c.as_bytes.ensures.value ∙ c.in_ok-head.ensures) c.in_ok-add.ensures.ok c.in_err-add_entries.ensures.err)

pub returns-in_err-flush-clause-err : goal.returns-in_err-flush-clause-err
returns-in_err-flush-clause-err g c =
    on_any c.from_residual-in_err-flush.result
    (trace_cut_end (record { tx = c.args.tx_start; rx = c.args.rx_start }) c.args.history.now.past c.in_ok-lines.lines c.as_bytes.result.now c.add.new.self
    c.add_entries.new.lines (g.K.Sink.written c.args.out.now) (g.K.Sink.written c.add.new.out) (g.K.Sink.written c.add_entries.new.out) (g.K.Sink.written c.flush.new.out)
    c.in_ok-lines.ensures (c.as_bytes.ensures.value ∙ c.in_ok-head.ensures) c.in_ok-add.ensures.ok c.in_ok-add_entries.ensures.ok c.in_err-flush.ensures.err)

pub returns-clause-ok : goal.returns-clause-ok
returns-clause-ok g c =
    trace_whole (record { tx = c.args.tx_start; rx = c.args.rx_start }) c.args.history.now.past c.in_ok-lines.lines c.as_bytes.result.now c.add.new.self
    c.add_entries.new.lines (g.K.Sink.written c.args.out.now) (g.K.Sink.written c.add.new.out) (g.K.Sink.written c.add_entries.new.out) (g.K.Sink.written c.flush.new.out)
    c.in_ok-lines.ensures (c.as_bytes.ensures.value ∙ c.in_ok-head.ensures) c.in_ok-add.ensures.ok c.in_ok-add_entries.ensures.ok c.in_ok-flush.ensures.ok

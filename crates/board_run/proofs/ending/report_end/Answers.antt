use Rattle.std.proofs.Common.{refl}
use Rattle.board_sim.proofs.Left.{report_behind}
use Rattle.board_run.proofs.ending.report_end.Goals as goal

pub returns-in_default : goal.returns-in_default
returns-in_default g c = record {
  reports = λ starts stands.
      report_behind c.args.end c.write_report.result c.write_report.result starts c.args.history.now.past c.args.history.now.past c.args.last c.args.mcu.now.devices.cycles
      c.args.mcu.now.trail (g.K.Sink.written c.args.out.now) (g.K.Sink.written c.write_report.new.out) (g.K.Sink.written c.write_report.new.out)
      c.in_default.not-WriteFault c.in_default.not-NoMemory refl refl refl (c.write_report.ensures.reports starts stands);
  faults = λ other. c.write_report.ensures.faults;
  still = λ fault. absurd (c.in_default.not-WriteFault fault);
}

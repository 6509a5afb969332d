use Rattle.std.proofs.Common.{ℕ, sym, ap, subst, ◌≡◌}
use Rattle.wz_base.specs.Outside.{RisesOnly}
use Rattle.chip_core.specs.Chip.{Stands}
use Rattle.chip_hist.specs.Log.{Log}
use Rattle.chip_sheet.specs.Past.{Past}
use Rattle.board_sim.specs.Report.{report_of}
use Rattle.board_sim.specs.declared.end.RunEnd.{RunEnd}
use Rattle.board_sim.specs.declared.end.RunEnd.TheVariants as ends
use Rattle.board_sim.proofs.Left.{none_behind, none_rises, report_behind}
use Rattle.board_sim.proofs.runs.with_report.Goals as goal
use Rattle.board_sim.proofs.runs.with_report.Goals.{in-WriteFault, in_default}

pub returns-clause-reports : goal.returns-clause-reports
returns-clause-reports g c = elim c.match-end.branch [
  | in-WriteFault w ↦
      none_behind c.args.end c.match-end.end
      (report_of c.args.play.board.now.starts c.args.play.board.now.log.past c.args.play.last c.args.play.mcu.devices.cycles c.args.play.mcu.trail c.args.end)
      (g.K.Sink.written c.args.out.now) (g.K.Sink.written c.match-end.out) w.in-WriteFault.is w.end-is (ap g.K.Sink.written w.out-is)
  | in_default w ↦
      let same = ap (λ (l : Log). l.past) c.into_parts-chip.ensures.history in
      report_behind c.args.end w.write_report-end.result c.match-end.end c.args.play.board.now.starts c.args.play.board.now.log.past c.into_parts-chip.result.1.past
      c.args.play.last c.args.play.mcu.devices.cycles c.args.play.mcu.trail (g.K.Sink.written c.args.out.now) (g.K.Sink.written w.write_report-end.new.out)
      (g.K.Sink.written c.match-end.out) w.in_default.not-WriteFault w.in_default.not-NoMemory same w.end-is (ap g.K.Sink.written w.out-is)
      (w.write_report-end.ensures.reports c.args.play.board.now.starts
      (subst (λ (p : Past). Stands c.args.play.board.now.starts c.into_parts-chip.result.0 p) (sym same) c.into_parts-chip.ensures.stands))
]

pub returns-clause-faults : goal.returns-clause-faults
returns-clause-faults g c = elim c.match-end.branch [
  | in-WriteFault w ↦ λ other.
      none_rises c.args.end c.match-end.end (g.K.Sink.faults c.args.out.now) (g.K.Sink.faults c.match-end.out) other w.end-is (ap g.K.Sink.faults w.out-is)
  | in_default w ↦ λ other.
      subst (λ (n : ℕ). RisesOnly (c.match-end.end ≡ ends.WriteFault) (g.K.Sink.faults c.args.out.now) n) (sym (ap g.K.Sink.faults w.out-is))
      (subst (λ (e : RunEnd). RisesOnly (e ≡ ends.WriteFault) (g.K.Sink.faults c.args.out.now) (g.K.Sink.faults w.write_report-end.new.out)) (sym w.end-is)
      w.write_report-end.ensures.faults)
]

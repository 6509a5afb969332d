use Rattle.std.proofs.Common.{List, ℕ, ◌∙◌, subst}
use Rattle.wz_base.specs.Whole.{Appends, AppendsFront}
use Rattle.board_sim.proofs.Left.{whole_reports}
use Rattle.board_sim.specs.Report.{report_of}
use Rattle.board_sim.proofs.output.write_report.Goals as goal

pub returns-in-Ok-write_all-clause-reports : goal.returns-in-Ok-write_all-clause-reports
returns-in-Ok-write_all-clause-reports g c = λ starts stands.
    whole_reports c.args.end (report_of starts c.args.history.now.past c.args.last c.args.mcu.now.devices.cycles c.args.mcu.now.trail c.args.end)
    (g.K.Sink.written c.args.out.now) (g.K.Sink.written c.write_all.new.sink) c.requires
    (subst (λ (t : List ℕ). Appends (g.K.Sink.written c.args.out.now) t (g.K.Sink.written c.write_all.new.sink))
    (c.as_bytes.ensures.value ∙ c.in-Ok.ensures starts stands) c.in-Ok-write_all.ensures.ok)

pub returns-in-Ok-clause-reports : goal.returns-in-Ok-clause-reports
returns-in-Ok-clause-reports g c = λ starts stands.
    subst (λ (t : List ℕ). AppendsFront (g.K.Sink.written c.args.out.now) t (g.K.Sink.written c.write_all.new.sink))
    (c.as_bytes.ensures.value ∙ c.in-Ok.ensures starts stands) c.in-Err-WriteFault.ensures.err

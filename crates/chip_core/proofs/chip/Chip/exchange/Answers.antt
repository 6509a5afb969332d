use Rattle.std.proofs.Common.{sym, ap, ◌∙◌, refl}
use Rattle.std.proofs.lemmas.Result.{IfOk-weaker, IfErr-weaker}
use Rattle.chip_sheet.specs.declared.event.Entry.TheVariants.{Bus}
use Rattle.chip_sheet.specs.Answers.{byte_out}
use Rattle.chip_steps.proofs.StopSteps.{no_access}
use Rattle.chip_core.proofs.Quiet.{quiet_none, quiet_read, quiet_passes}
use Rattle.chip_core.proofs.Counting.{counted_quiet}
use Rattle.chip_core.proofs.chip.Chip.exchange.Goals as goal

pub returns-in-NoAccess-clause-ok : goal.returns-in-NoAccess-clause-ok
returns-in-NoAccess-clause-ok c = λ starts past e a made idle inside.
    let is = made ∙ c.in-NoAccess.is in
    let quiet = quiet_none past e a is in
    record {
      allowed = no_access starts past e is;
      byte = idle ∙ sym (ap (byte_out starts past) c.in-NoAccess.is);
      parts = c.untouched_parts.ensures starts past (Bus e a) c.args.self.now.parts inside.parts quiet.common quiet.sockets;
      counts = counted_quiet starts past e a c.args.self.now.counts inside.legal (λ n. quiet_passes starts past e a n quiet) inside.counts;
    }

pub returns-in-Read-clause-ok : goal.returns-in-Read-clause-ok
returns-in-Read-clause-ok c = IfOk-weaker c.read.result _ _ (λ out went. λ starts past e a made idle inside.
    let is = made ∙ c.in-Read.is in
    let quiet = quiet_read past e a c.in-Read.block c.in-Read.addr is in
    let here = went starts past e is inside in
    record {
      allowed = here.0;
      byte = here.1 ∙ sym (ap (byte_out starts past) c.in-Read.is);
      parts = c.untouched_parts.ensures starts past (Bus e a) c.args.self.now.parts inside.parts quiet.common quiet.sockets;
      counts = counted_quiet starts past e a c.args.self.now.counts inside.legal (λ n. quiet_passes starts past e a n quiet) inside.counts;
    }) c.read.ensures.ok

pub returns-in-Read-clause-err : goal.returns-in-Read-clause-err
returns-in-Read-clause-err c = IfErr-weaker c.read.result _ _ (λ s stopped. (refl, λ starts past e made inside. stopped starts past e (made ∙ c.in-Read.is))) c.read.ensures.err

pub returns-in-Write-clause-ok : goal.returns-in-Write-clause-ok
returns-in-Write-clause-ok c = IfOk-weaker c.write.result _ _ (λ out went. λ starts past e a made idle inside.
    let here = went starts past e a (made ∙ c.in-Write.is) inside in
    record { allowed = here.allowed; byte = here.byte ∙ sym (ap (byte_out starts past) c.in-Write.is); parts = here.parts; counts = here.counts }) c.write.ensures.ok

pub returns-in-Write-clause-err : goal.returns-in-Write-clause-err
returns-in-Write-clause-err c = IfErr-weaker c.write.result _ _ (λ s stopped. (stopped.0, λ starts past e made inside. stopped.1 starts past e (made ∙ c.in-Write.is) inside)) c.write.ensures.err

use Rattle.std.proofs.Common.{refl, ap}
use Rattle.chip_parts.specs.declared.parts.Parts.{Parts}
use Rattle.chip_core.proofs.Counting.{counted_write, counted_elsewhere}
use Rattle.chip_core.proofs.chip.Chip.write.Goals as goal

pub returns-then-block-eq1-clause-ok : goal.returns-then-block-eq1-clause-ok
returns-then-block-eq1-clause-ok c = λ starts past e a made inside.
    let went = c.in-Ok.ensures.ok starts past e a inside.legal inside.parts made in
    record {
      allowed = went.allowed;
      byte = refl;
      parts = went.stands;
      counts = counted_write starts past e a c.args.block c.in-Ok.sent c.args.self.now.counts c.add_sent.new.counts inside.legal went.passes c.if-block-eq1.true c.add_sent.ensures.own c.add_sent.ensures.others inside.counts;
    }

pub returns-else-block-eq1-clause-ok : goal.returns-else-block-eq1-clause-ok
returns-else-block-eq1-clause-ok c = λ starts past e a made inside.
    let went = c.in-Ok.ensures.ok starts past e a inside.legal inside.parts made in
    record {
      allowed = went.allowed;
      byte = refl;
      parts = went.stands;
      counts = counted_elsewhere starts past e a c.args.block c.in-Ok.sent c.args.self.now.counts inside.legal went.passes c.if-block-eq1.false inside.counts;
    }

pub returns-in-Err-clause-err : goal.returns-in-Err-clause-err
returns-in-Err-clause-err c = (
  ap (λ (parts : Parts). record c.args.self.now { parts = parts }) c.in-Err.ensures.err.0,
  λ starts past e made inside. c.in-Err.ensures.err.1 starts past e inside.legal inside.parts made,
)

use Rattle.wz_base.proofs.Gathered.{front_then, on_err}
use Rattle.wz_base.proofs.lines.LineBuffer.write_long.Goals as goal

pub returns-clause-err : goal.returns-clause-err
returns-clause-err g c =
    on_err c.write_all.result (front_then (g.K.Sink.written c.args.out.now) (g.K.Sink.written c.flush.new.out) (g.K.Sink.written c.write_all.new.sink) c.args.self.now c.args.line.now c.in_ok-flush.ensures.ok) c.write_all.ensures.err

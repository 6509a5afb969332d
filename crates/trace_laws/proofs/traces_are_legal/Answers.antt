use Rattle.trace_laws.proofs.Traces.{traces_are_legal}
use Rattle.trace_laws.proofs.traces_are_legal.Goals as goal

pub returns : goal.returns
returns c = traces_are_legal

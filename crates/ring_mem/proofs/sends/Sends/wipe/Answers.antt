use Rattle.std.proofs.Common.{false, replicate, ap, ◌∙◌, arith}
use Rattle.ring_mem.proofs.sends.Sends.wipe.Goals as goal

pub invariant_of-self-clause-fits : goal.invariant_of-self-clause-fits
invariant_of-self-clause-fits c = λ n. omega (arith, c.requires n)

pub returns-clause-memory : goal.returns-clause-memory
returns-clause-memory c = c.fill.ensures.items (λ y e. e) ∙ ap (λ n. replicate n 0) c.args.self.now.memory_len

pub returns-clause-marks : goal.returns-clause-marks
returns-clause-marks c = c.fill-2.ensures.items (λ y e. e) ∙ ap (λ n. replicate n false) c.args.self.now.marks_len

use Rattle.std.proofs.Common.{replicate, ap, ◌∙◌, arith}
use Rattle.ring_mem.proofs.receives.Receives.wipe.Goals as goal

pub invariant_of-self : goal.invariant_of-self
invariant_of-self c = record {
  memory_len = c.fill.ensures.len ∙ c.args.self.now.memory_len;
  fits = λ n. omega (arith, c.requires n);
}

pub returns-clause-memory : goal.returns-clause-memory
returns-clause-memory c = c.fill.ensures.items (λ y e. e) ∙ ap (λ n. replicate n 0) c.args.self.now.memory_len

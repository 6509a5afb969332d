use Rattle.std.proofs.Common.{◌≡◌, ◌≤◌}
use Rattle.chip_shared.specs.Calling.{first_due}
use Rattle.chip_shared.proofs.shared.Shared.link_step.Given as goal

abbrev pub invariant-loop-place : goal.invariant-loop-place
invariant-loop-place g l = record {
  last : l.place ≤ 16;
  same : l.self ≡ l.initial.self;
  none : first_due l.self.starts l.self.log.past l.place ≡ first_due l.self.starts l.self.log.past l.fn.from;
}

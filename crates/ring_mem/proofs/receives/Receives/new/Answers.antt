use Rattle.std.proofs.Common.{sym, ap, ◌∙◌, arith}
use Rattle.chip_sheet.specs.Sizes.{size_among}
use Rattle.ring_mem.proofs.Idle.{zeros, twos}
use Rattle.ring_mem.proofs.receives.Receives.new.Goals as goal

pub invariant_of-result : goal.invariant_of-result
invariant_of-result c = record {
  memory_len = c.in_ok-memory.ensures.len;
  fits = λ n. let e = zeros n in omega (arith, e);
}

pub returns-clause-stands : goal.returns-clause-stands
returns-clause-stands c = λ n below. record {
  size = sym (c.new.result.meant n below ∙ ap (λ ks. size_among ks n) c.new.ensures ∙ twos n below);
  unread = sym (zeros n);
  within = omega arith;
  end = zeros n;
  rd = sym (zeros n);
  high = omega arith;
  low = omega arith;
  kept = λ j less. absurd (omega (arith, less));
}

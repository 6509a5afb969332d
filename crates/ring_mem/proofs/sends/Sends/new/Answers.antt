use Rattle.std.proofs.Common.{ap, ◌∙◌, arith}
use Rattle.chip_sheet.specs.Sizes.{size_among}
use Rattle.ring_mem.proofs.Idle.{new_stands, zeros, twos}
use Rattle.ring_mem.proofs.sends.Sends.new.Goals as goal

pub invariant_of-result : goal.invariant_of-result
invariant_of-result c = record {
  memory_len = c.in_ok-memory.ensures.len;
  marks_len = c.in_ok-marks.ensures.len;
  fits = λ n. let e = zeros n in omega (arith, e);
}

pub returns-clause-stands : goal.returns-clause-stands
returns-clause-stands c = λ n below.
    new_stands _ _ _ 2048 (c.in_ok-memory.ensures.items_if_clones_equal (λ y e. e)) (c.in_ok-marks.ensures.items_if_clones_equal (λ y e. e))
    (c.new.result.meant n below ∙ ap (λ ks. size_among ks n) c.new.ensures ∙ twos n below) (zeros n) (zeros n) (zeros n)

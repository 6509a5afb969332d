use Rattle.std.proofs.Common.{◌≡◌, arith, sym, ◌∙◌}
use Rattle.board_list.proofs.Used.{used_whole, used_none, used_skip, used_keep}
use Rattle.board_list.proofs.listing.used.Goals as goal

pub loop-used-init : goal.loop-used-init
loop-used-init c = record { within = omega arith; so_far = used_whole c.args.image.now }

pub returns-then-word-clause-is : goal.returns-then-word-clause-is
returns-then-word-clause-is c =
    sym (used_keep c.args.image.now c.loop-used.used c.loop-used-test.true (rw c.word.ensures at c.if-word.true)) ∙ c.loop-used.invariant.so_far

pub loop-used-preserved : goal.loop-used-preserved
loop-used-preserved c = record {
  within = omega (arith, c.loop-used.invariant.within);
  so_far = used_skip c.args.image.now c.loop-used.used c.loop-used-test.true (rw c.word.ensures at c.if-word.false) ∙ c.loop-used.invariant.so_far;
}

pub returns-clause-is : goal.returns-clause-is
returns-clause-is c =
    let none : c.loop-used.used ≡ 0 = omega (arith, c.loop-used-test.false) in
    sym (used_none c.args.image.now) ∙ rw none at c.loop-used.invariant.so_far

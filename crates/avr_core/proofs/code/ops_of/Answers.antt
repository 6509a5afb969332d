use Rattle.std.proofs.Common.{◌≡◌, ◌++◌, ◌∷◌, [], Some, subst, arith}
use Rattle.std.specs.Prelude.{slice_get}
use Rattle.std.proofs.lemmas.Grind.{common_steps}
use Rattle.avr_core.proofs.Codes.{ops-push}
use Rattle.avr_core.proofs.code.ops_of.Goals as goal

pub loop-at-preserved : goal.loop-at-preserved
loop-at-preserved c =
    let items : c.push.new.self.items ≡ c.loop-at.ops.items ++ c.op_in.result ∷ [] = grind (arith, common_steps, c.in_ok-push.ensures.items) in
    record {
      count = grind (arith, common_steps, items, c.loop-at.invariant.count);
      each = λ k op is. ops-push c.args.image.now c.loop-at.ops.items c.loop-at.at c.op_in.result c.loop-at.invariant.count c.loop-at.invariant.each c.op_in.ensures k op
          (subst (λ xs. slice_get xs k ≡ Some op) items is);
    }

use Rattle.std.proofs.Common.{◌≡◌, ℕ, length, Some}
use Rattle.std.specs.Prelude.{slice_get}
use Rattle.avr_core.specs.Code.{said_at}
use Rattle.avr_core.specs.Ops.{IsOp}
use Rattle.avr_core.specs.declared.op.Op.{Op}
use Rattle.avr_core.proofs.code.ops_of.Given as goal

abbrev pub invariant-loop-at : goal.invariant-loop-at
invariant-loop-at l = record {
  count : length l.ops.items ≡ l.at;
  each : (k : ℕ) (op : Op) → slice_get l.ops.items k ≡ Some op → IsOp op (said_at l.image k);
}

use Rattle.std.proofs.Common.{◌≡◌, ◌+◌, drop}
use Rattle.ihex.specs.Flash.{placed, written}
use Rattle.ihex.proofs.record.write.Given as goal

abbrev pub invariant-loop-i : goal.invariant-loop-i
invariant-loop-i l = written l.image (placed (l.at + l.i) (drop l.i l.payload)) ≡ written l.fn.image (placed l.at l.payload)

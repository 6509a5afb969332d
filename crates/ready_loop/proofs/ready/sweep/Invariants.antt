use Rattle.std.proofs.Common.{◌≡◌, ℕ, Option, Some, None}
use Rattle.chip_shared.proofs.Sweeps.{IsPlace, left}
use Rattle.chip_lock.specs.declared.over.Over.{Over}
use Rattle.ready_loop.specs.Serving.{Serves}
use Rattle.ready_loop.proofs.ready.sweep.Given as goal

-- The pass has served so far, and gave no cause; it has not ended behind a step, and one that had ended made none.
abbrev pub invariant-loop-next : goal.invariant-loop-next
invariant-loop-next g l =
    IsPlace l.next
    × Serves l.initial.pass l.pass
    × (l.pass.gave ≡ l.initial.pass.gave)
    × ((c : Over) → l.initial.pass.ended ≡ Some c → l.pass ≡ l.initial.pass)
    × (l.next ≡ None → l.pass.ended ≡ None)

abbrev pub decreases-loop-next : goal.decreases-loop-next
decreases-loop-next g l = left l.next

use Rattle.std.proofs.Common.{◌≡◌, Some}
use Rattle.chip_lock.specs.declared.over.Over.{Over}
use Rattle.ready_loop.specs.Serving.{Serves}
use Rattle.ready_loop.proofs.ready.run_ready.Given as goal

-- The pass has served so far, and gave no cause; no wait failed, and a pass that had ended made no turn.
abbrev pub invariant-loop : goal.invariant-loop
invariant-loop g l =
    (goal.iterator-loop g).can_next l.iterator' × (goal.iterator-loop g).is_finite l.iterator'
    × Serves l.initial.pass l.pass
    × (l.pass.gave ≡ l.initial.pass.gave)
    × ((c : Over) → l.initial.pass.ended ≡ Some c → l.pass ≡ l.initial.pass)
    × (g.P.Poller.faults l.poller ≡ g.P.Poller.faults l.initial.poller)

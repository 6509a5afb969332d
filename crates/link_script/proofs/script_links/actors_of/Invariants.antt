use Rattle.std.proofs.Common.{◌≡◌, map}
use Rattle.link_script.specs.Start.{start_of}
use Rattle.link_script.proofs.script_links.actors_of.Given as goal

abbrev pub invariant-loop-peer : goal.invariant-loop-peer
invariant-loop-peer l =
    (goal.iterator-loop-peer).can_next l.peer-iterator × (goal.iterator-loop-peer).is_finite l.peer-iterator
    × (l.actors.items ≡ map start_of l.yielded)

use Rattle.std.proofs.Common.{◌≡◌, ◌-◌, ◌<◌, ◌^◌, None}
use Rattle.avr_mcu.specs.Run.{after, run}
use Rattle.avr_mcu.proofs.run.run_on.Given as goal

abbrev pub invariant-turns : goal.invariant-turns
invariant-turns l = record {
  cycles : l.mcu.devices.cycles < 2 ^ 63;
  fresh : l.peer.wanted ≡ None;
  whole : run l.limit l.fn.mcu l.fn.peer.left ≡ after l.peer.asked l.serial.items (run l.limit l.mcu l.peer.left);
}

abbrev pub decreases-turns : goal.decreases-turns
decreases-turns l = l.limit - l.mcu.devices.cycles

use Rattle.std.proofs.Common.{◌≡◌, ◌-◌, ◌<◌, ◌^◌, []}
use Rattle.avr_mcu.specs.State.{McuState}
use Rattle.avr_run.specs.Told.{SoFar}
use Rattle.avr_run.proofs.run.run_told.Given as goal

abbrev pub invariant-turns : goal.invariant-turns
invariant-turns g l = record {
  cycles : l.mcu.devices.cycles < 2 ^ 63;
  so_far : (start : McuState) → SoFar l.limit start [] l.fn.mcu (g.B.ToldPeer.told l.fn.peer) → SoFar l.limit start l.serial.items l.mcu (g.B.ToldPeer.told l.peer);
}

abbrev pub decreases-turns : goal.decreases-turns
decreases-turns g l = l.limit - l.mcu.devices.cycles

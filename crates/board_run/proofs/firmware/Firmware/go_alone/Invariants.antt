use Rattle.std.proofs.Common.{◌≡◌, ◌-◌}
use Rattle.board_sim.specs.Playing.{printing}
use Rattle.board_run.specs.Wires.{told_of, Keeps}
use Rattle.board_run.specs.Sides.{Quiet}
use Rattle.board_run.specs.Going.{IsReady, Walked}
use Rattle.board_run.proofs.firmware.Firmware.go_alone.Given as goal

abbrev pub invariant-steps : goal.invariant-steps
invariant-steps g l = record {
  way : Walked l.fn.self.cycles l.fn.self.mcu (told_of l.fn.self.wire) l.self.mcu (told_of l.self.wire) (printing (g.K.Sink.written l.fn.out) l.fn.self.last) (printing (g.K.Sink.written l.out) l.self.last);
  ready : IsReady l.self.cycles l.self.mcu;
  cycles : l.self.cycles ≡ l.fn.self.cycles;
  keeps : Keeps l.fn.self.wire l.self.wire;
  quiet : Quiet l.fn.links l.links;
  faults : g.K.Sink.faults l.out ≡ g.K.Sink.faults l.fn.out;
}

abbrev pub decreases-steps : goal.decreases-steps
decreases-steps g l = l.self.cycles - l.self.mcu.devices.cycles

use Rattle.std.proofs.Common.{◌≡◌, ◌-◌}
use Rattle.board_sim.specs.Playing.{printing, IsReady, Walked}
use Rattle.board_sim.specs.Seats.{seen}
use Rattle.board_sim.proofs.play.Play.go.Given as goal

abbrev pub invariant-steps : goal.invariant-steps
invariant-steps g l = record {
  way : Walked l.fn.self.cycles l.fn.self.mcu (seen l.fn.self.board) l.self.mcu (seen l.self.board) (printing (g.K.Sink.written l.fn.out) l.fn.self.last) (printing (g.K.Sink.written l.out) l.self.last);
  ready : IsReady l.self.cycles l.self.mcu (seen l.self.board);
  cycles : l.self.cycles ≡ l.fn.self.cycles;
  starts : l.self.board.now.starts ≡ l.fn.self.board.now.starts;
  faults : g.K.Sink.faults l.out ≡ g.K.Sink.faults l.fn.out;
}

abbrev pub decreases-steps : goal.decreases-steps
decreases-steps g l = l.self.cycles - l.self.mcu.devices.cycles

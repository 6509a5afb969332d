use Rattle.board_sim.specs.Playing.{printing}
use Rattle.board_sim.specs.Seats.{seen}
use Rattle.board_sim.specs.declared.end.RunEnd.TheVariants as ends
use Rattle.board_sim.specs.declared.play.Cut.TheVariants as cuts
use Rattle.board_sim.proofs.Ending.{fault_cut, fault_end}
use Rattle.board_sim.proofs.Left.{same_rises}
use Rattle.board_sim.proofs.Ran.{ran_to}
use Rattle.std.proofs.Common.{◌≡◌}
use Rattle.board_sim.proofs.runs.run.Goals as goal

pub returns-clause-ran : goal.returns-clause-ran
returns-clause-ran g c = λ image is.
    ran_to c.go-cut.result c.finish.result c.args.play.now.cycles image c.args.play.now.mcu (seen c.args.play.now.board) c.go-cut.new.self.mcu
    (seen c.go-cut.new.self.board) (seen c.finish.new.board) (printing (g.K.Sink.written c.args.out.now) c.args.play.now.last)
    (printing (g.K.Sink.written c.go-cut.new.out) c.go-cut.new.self.last) is c.go-cut.ensures.goes c.finish.ensures.finishes

pub returns-clause-faults : goal.returns-clause-faults
returns-clause-faults g c =
    let it = c.finish.ensures.finishes c.go-cut.new.self.mcu in
    same_rises (c.go-cut.result ≡ cuts.WriteFault) (c.finish.result ≡ ends.WriteFault) (g.K.Sink.faults c.args.out.now) (g.K.Sink.faults c.go-cut.new.out)
    (fault_cut c.go-cut.result c.finish.result c.go-cut.new.self.mcu (seen c.go-cut.new.self.board) (seen c.finish.new.board) it)
    (fault_end c.go-cut.result c.finish.result c.go-cut.new.self.mcu (seen c.go-cut.new.self.board) (seen c.finish.new.board) it) c.go-cut.ensures.faults

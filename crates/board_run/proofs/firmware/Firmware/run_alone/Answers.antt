use Rattle.std.proofs.Common.{ap}
use Rattle.board_run.proofs.Beside.{ran_left}
use Rattle.board_run.proofs.firmware.Firmware.run_alone.Goals as goal

pub returns-clause-ran : goal.returns-clause-ran
returns-clause-ran g c =
    let l = c.leave.ensures in
    let steps = c.go_alone-cut.ensures in
    ran_left _ _ _ _ _ _ _ _ _ _ _ _ _ _ _ steps.goes steps.keeps l.pass l.cut l.mcu l.refused (ap g.K.Sink.written l.out) l.last

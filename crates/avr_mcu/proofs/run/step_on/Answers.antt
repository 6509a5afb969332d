use Rattle.avr_mcu.specs.Step.{gone, stepped}
use Rattle.avr_mcu.proofs.Runs.{plays-listed}
use Rattle.avr_mcu.proofs.run.step_on.Goals as goal

pub returns : goal.returns
returns c =
    let it = plays-listed (stepped c.args.mcu.now) c.args.peer.now c.step.new.peer (gone c.step.result c.step.new.self) c.step.ensures.plays in
    record { step = it.0; peer = it.1 }

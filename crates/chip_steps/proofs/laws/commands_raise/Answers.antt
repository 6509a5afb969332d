use Rattle.chip_steps.proofs.BitSteps.{send_raises, receive_raises, quiet_raises}
use Rattle.chip_steps.proofs.laws.commands_raise.Goals as goal

pub returns : goal.returns
returns c = record { send = send_raises; receive = receive_raises; others = quiet_raises }

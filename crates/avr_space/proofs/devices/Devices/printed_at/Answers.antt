use Rattle.avr_space.proofs.Quiet.{prints-none-until}
use Rattle.avr_space.proofs.devices.Devices.printed_at.Goals as goal

pub returns : goal.returns
returns c = prints-none-until c.args.self.now c.next_event.result c.next_event.ensures.stays

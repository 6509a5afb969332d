use Rattle.std.proofs.Common.{sym, ◌∙◌, arith}
use Rattle.avr_space.proofs.Quiet.{quiet-until}
use Rattle.avr_space.proofs.devices.Devices.quiet_until.Goals as goal

pub returns-in-None : goal.returns-in-None
returns-in-None c =
    quiet-until c.args.self.now c.quiet_until.result c.next_event.result c.min.result (sym c.pending.ensures ∙ c.in-None.is) c.quiet_until.ensures.before c.next_event.ensures.stays
    (omega (arith, c.min.ensures)) (omega (arith, c.min.ensures))

pub returns-in-Some : goal.returns-in-Some
returns-in-Some c = λ n before. absurd (omega (arith, before))

use Rattle.std.proofs.Common.{sym}
use Rattle.avr_core.proofs.Plain.{owes-is}
use Rattle.avr_core.proofs.cpu.Core.owes.Goals as goal

pub returns-in_default : goal.returns-in_default
returns-in_default c =
    sym (owes-is c.args.code.now c.args.self.now c.op.result.now c.in_flash.result c.in_flash.ensures c.op.ensures c.in_default.not-Sei c.in_default.not-Reti)

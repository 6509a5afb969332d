use Rattle.std.proofs.Common.{subst}
use Rattle.avr_core.proofs.Plain.{op-meaning, op-settles, op-within}
use Rattle.avr_core.proofs.Trees.{plays-all}
use Rattle.avr_core.proofs.Uses.{meaning-cuts}
use Rattle.avr_core.specs.Ask.{Plays}
use Rattle.avr_core.specs.Settled.{Settles}
use Rattle.avr_core.proofs.cpu.Core.step.Goals as goal

pub returns-clause-settled : goal.returns-clause-settled
returns-clause-settled g c =
    plays-all (Settles c.args.self.now) g.D.DataBus.did _ c.args.bus.now c.perform.new.bus (record { went = c.perform.result; core = c.perform.new.self })
    (op-settles c.args.flash.now c.args.self.now c.op_in-op.result) c.perform.ensures

pub returns-clause-over : goal.returns-clause-over
returns-clause-over g c = meaning-cuts c.args.flash.now c.args.self.now

pub returns-clause-asks : goal.returns-clause-asks
returns-clause-asks g c = op-within c.args.flash.now c.args.self.now c.op_in-op.result c.in_flash.result c.in_flash.ensures c.op_in-op.ensures

pub returns-clause-meaning : goal.returns-clause-meaning
returns-clause-meaning g c =
    subst (λ t. Plays g.D.DataBus.did c.args.bus.now t (record { went = c.perform.result; core = c.perform.new.self }) c.perform.new.bus)
    (op-meaning c.args.flash.now c.args.self.now c.op_in-op.result c.in_flash.result c.in_flash.ensures c.op_in-op.ensures) c.perform.ensures

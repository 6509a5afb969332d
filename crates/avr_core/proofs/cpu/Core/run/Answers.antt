use Rattle.std.proofs.Common.{List, ℕ, subst}
use Rattle.avr_core.proofs.Plain.{op-meaning, op-settles}
use Rattle.avr_core.proofs.Trees.{plays-all}
use Rattle.avr_core.specs.Ask.{Plays}
use Rattle.avr_core.specs.Meaning.{executed}
use Rattle.avr_core.specs.Ops.{instr_of}
use Rattle.avr_core.specs.Registers.{in_flash}
use Rattle.avr_core.specs.Settled.{Settles}
use Rattle.flash.specs.Image.{word_at}
use Rattle.avr_core.proofs.cpu.Core.run.Goals as goal

pub returns-clause-settled : goal.returns-clause-settled
returns-clause-settled g c =
    plays-all (Settles c.args.self.now) g.D.DataBus.did _ c.args.bus.now c.perform.new.bus (record { went = c.perform.result; core = c.perform.new.self })
    (op-settles c.image.result.now c.args.self.now c.op-op.result.now) c.perform.ensures

pub returns-clause-meaning : goal.returns-clause-meaning
returns-clause-meaning g c =
    let plays = subst (λ (f : List ℕ). Plays g.D.DataBus.did c.args.bus.now (executed f (word_at f (in_flash c.args.self.now.pc)) (instr_of c.op-op.result.now) c.args.self.now)
    (record { went = c.perform.result; core = c.perform.new.self }) c.perform.new.bus) c.image.ensures c.perform.ensures in
    subst (λ t. Plays g.D.DataBus.did c.args.bus.now t (record { went = c.perform.result; core = c.perform.new.self }) c.perform.new.bus)
    (op-meaning c.args.code.now c.args.self.now c.op-op.result.now c.in_flash.result c.in_flash.ensures c.op-op.ensures) plays

use Rattle.std.proofs.Common.{Ok, Err, sym, subst, ◌∙◌}
use Rattle.avr_core.proofs.Sram.{load-plays}
use Rattle.avr_core.specs.Ask.{Plays}
use Rattle.avr_core.proofs.cpu.Core.load.Goals as goal

pub returns-in-Ok : goal.returns-in-Ok
returns-in-Ok g c = λ next end after play.
    load-plays g.D.DataBus.did c.args.self.now c.args.at next c.args.bus.now c.read.new.self after c.read.result (Ok c.in-Ok.v) end
    (sym c.is_sram.ensures ∙ c.if-is_sram.true) c.read.ensures c.in-Ok.is play

pub returns-in-Err : goal.returns-in-Err
returns-in-Err g c = λ next end after play.
    load-plays g.D.DataBus.did c.args.self.now c.args.at next c.args.bus.now c.read.new.self after c.read.result (Err c.in-Err.end) end
    (sym c.is_sram.ensures ∙ c.if-is_sram.true) c.read.ensures c.in-Err.is
    (subst (λ w. Plays g.D.DataBus.did c.read.new.self (next (Err w)) end after) c.ended.ensures play)

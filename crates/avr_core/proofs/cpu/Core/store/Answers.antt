use Rattle.std.proofs.Common.{Ok, Err, sym, subst, ◌∙◌}
use Rattle.avr_core.proofs.Sram.{store-plays}
use Rattle.avr_core.specs.Ask.{Plays}
use Rattle.avr_core.proofs.cpu.Core.store.Goals as goal

pub returns-in-Ok-clause-stored : goal.returns-in-Ok-clause-stored
returns-in-Ok-clause-stored g c = λ next end after play.
    store-plays g.D.DataBus.did c.args.self.now c.args.at c.args.v next c.args.bus.now c.write.new.self after c.write.result (Ok tt) end
    (sym c.is_sram.ensures ∙ c.if-is_sram.true) c.write.ensures c.in-Ok.is play

pub returns-in-Err-clause-stored : goal.returns-in-Err-clause-stored
returns-in-Err-clause-stored g c = λ next end after play.
    store-plays g.D.DataBus.did c.args.self.now c.args.at c.args.v next c.args.bus.now c.write.new.self after c.write.result (Err c.in-Err.end) end
    (sym c.is_sram.ensures ∙ c.if-is_sram.true) c.write.ensures c.in-Err.is
    (subst (λ w. Plays g.D.DataBus.did c.write.new.self (next (Err w)) end after) c.ended.ensures play)

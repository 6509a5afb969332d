use Rattle.std.proofs.Common.{◌∷◌, ◌≤◌, sym, arith, Ok, Err}
use Rattle.chip_sheet.specs.declared.event.Entry.TheVariants.{Bus}
use Rattle.chip_core.specs.Chip.{starts_of}
use Rattle.chip_shared.specs.Sound.{state_of}
use Rattle.chip_shared.specs.declared.shared.StepEnd.TheVariants.{Stopped}
use Rattle.chip_shared.proofs.SendFits.{fits_goes}
use Rattle.chip_shared.proofs.Sounds.{sound_bus, answered_bus}
use Rattle.chip_shared.proofs.Opens.{short_of, light_of, sound_stop, stops_bus}
use Rattle.chip_shared.proofs.shared.Shared.bus_step.Goals as goal

pub invariant_of-self : goal.invariant_of-self
invariant_of-self g c =
    let old = c.self.inside in
    let starts = starts_of old.chip in
    let step = c.in-Ok.ensures.answered starts old.history.past c.self.invariant.stands in
    let same = c.starts_are.ensures starts c.bus.new.self (Bus c.args.e c.in-Ok.a ∷ old.history.past) step.stands in
    sound_bus g.L.Links.shown old.chip c.bus.new.self old.history c.push.new.self old.links old.calls c.args.e c.in-Ok.a c.self.invariant step same c.push.ensures.past

pub returns-in-Ok : goal.returns-in-Ok
returns-in-Ok g c =
    let old = c.self.inside in
    let starts = starts_of old.chip in
    let step = c.in-Ok.ensures.answered starts old.history.past c.self.invariant.stands in
    let same = c.starts_are.ensures starts c.bus.new.self (Bus c.args.e c.in-Ok.a ∷ old.history.past) step.stands in
    let spare = c.push.ensures.bytes in
    let bytes : old.history.spare_bytes ≤ c.push.new.self.spare_bytes = omega (arith, spare) in
    let asks = answered_bus c.args.self.now c.ready.new.self old.chip c.bus.new.self old.history c.push.new.self old.links old.calls c.args.e c.in-Ok.a (sym c.self.view_is)
    c.in_default.ensures.before c.ready.ensures.keeps step same c.push.ensures.past c.push.ensures.limit c.push.ensures.events bytes in
    record {
      asks = asks;
      sends = λ n open_ room fits. fits_goes c.args.self.now (state_of c.bus.new.self c.push.new.self old.links old.calls) c.args.e n (Ok c.in-Ok.a) asks open_ room fits;
    }

pub bus-requires : goal.bus-requires
bus-requires g c =
    let it = c.self.inside in
    c.short_is_few.ensures (starts_of it.chip) it.chip it.history.past c.self.invariant.stands (short_of c.ready.new.self it.chip it.history it.links it.calls c.self.view_is c.in_default.ensures.short)

pub push-requires-clause-light : goal.push-requires-clause-light
push-requires-clause-light g c =
    let it = c.self.inside in
    light_of c.args.self.now c.ready.new.self it.chip it.history it.links it.calls c.self.view_is c.ready.ensures.keeps c.in_default.ensures.before

pub invariant_of-self-in-Err-bus : goal.invariant_of-self-in-Err-bus
invariant_of-self-in-Err-bus g c =
    let it = c.self.inside in
    let stopped = c.in-Err-bus.ensures.stopped (starts_of it.chip) it.history.past c.self.invariant.stands in
    sound_stop g.L.Links.shown it.chip c.bus.new.self it.history it.links it.calls c.self.invariant stopped.stands (c.starts_are.ensures (starts_of it.chip) c.bus.new.self it.history.past stopped.stands)

pub returns-in-Err-bus : goal.returns-in-Err-bus
returns-in-Err-bus g c =
    let it = c.self.inside in
    let stopped = c.in-Err-bus.ensures.stopped (starts_of it.chip) it.history.past c.self.invariant.stands in
    let asks = stops_bus c.args.self.now c.ready.new.self it.chip c.bus.new.self it.history it.links it.calls c.args.e c.in-Err-bus.stop c.self.view_is c.ready.ensures.keeps c.ready.ensures.stopped c.in_default.ensures.before
    stopped (c.starts_are.ensures (starts_of it.chip) c.bus.new.self it.history.past stopped.stands) in
    record {
      asks = asks;
      sends = λ n open_ room fits. fits_goes c.args.self.now (state_of c.bus.new.self it.history it.links it.calls) c.args.e n (Err (Stopped c.in-Err-bus.stop)) asks open_ room fits;
    }

use Rattle.std.proofs.Common.{◌/◌, length, arith}
use Rattle.chip_core.specs.Chip.{starts_of}
use Rattle.chip_shared.specs.Entries.{entry_for}
use Rattle.chip_shared.proofs.Begun.{begun, few_calls, few_flying, half, needs_of, ready_of}
use Rattle.chip_shared.proofs.Here.{here}
use Rattle.chip_shared.proofs.OneCall.{call_is, call_sound, settled}
use Rattle.chip_shared.proofs.shared.Shared.make_step.Goals as goal

pub make-what-requires-clause-needs : goal.make-what-requires-clause-needs
make-what-requires-clause-needs g c =
    let it = c.self.inside in
    let begins = begun c.args.self.now it.chip it.history it.links it.calls c.args.place c.args.call.now c.self.view_is c.requires.begins in
    needs_of g.L.Links.shown it.chip it.history it.links it.calls c.args.place c.args.call.now (length c.offer.result.0.now) c.self.invariant begins
    (c.offer.ensures.first (starts_of it.chip) it.history.past c.self.invariant.stands)

pub make-what-requires-clause-few : goal.make-what-requires-clause-few
make-what-requires-clause-few g c =
    let it = c.self.inside in
    let stands = c.self.invariant.stands in
    few_flying (starts_of it.chip) it.history.past (c.args.place / 2) c.offer.result.0.now c.offer.result.1.now (half c.args.place c.requires.begins.at) stands.legal
    (c.offer.ensures.bytes (starts_of it.chip) it.history.past stands)

pub settle-requires : goal.settle-requires
settle-requires g c =
    let it = c.self.inside in
    let starts = starts_of it.chip in
    let past = it.history.past in
    let stands = c.self.invariant.stands in
    let begins = begun c.args.self.now it.chip it.history it.links it.calls c.args.place c.args.call.now c.self.view_is c.requires.begins in
    let made = here g.L.Links.effect g.L.Links.shown it.links starts past (c.args.place / 2) c.args.call.now c.offer.result.0.now c.offer.result.1.now c.make-what.result c.make-what.new.links
    c.make-what.ensures (c.offer.ensures.bytes starts past stands) (c.offer.ensures.first starts past stands) in
    ready_of g.L.Links.effect g.L.Links.shown it.chip it.history it.links c.make-what.new.links it.calls c.args.place c.args.call.now c.make-what.result begins made stands c.short_is_few.ensures c.fits_agrees.ensures

pub overflow_add-self : goal.overflow_add-self
overflow_add-self g c =
    let it = c.self.inside in
    let few = few_calls it.chip it.history it.links it.calls c.args.place c.args.call.now (begun c.args.self.now it.chip it.history it.links it.calls c.args.place c.args.call.now c.self.view_is c.requires.begins) in
    let counted = c.self.invariant.counted in
    omega (arith, few, counted)

pub invariant_of-self : goal.invariant_of-self
invariant_of-self g c =
    let it = c.self.inside in
    let starts = starts_of it.chip in
    let past = it.history.past in
    let held = c.self.invariant in
    let begins = begun c.args.self.now it.chip it.history it.links it.calls c.args.place c.args.call.now c.self.view_is c.requires.begins in
    let made = here g.L.Links.effect g.L.Links.shown it.links starts past (c.args.place / 2) c.args.call.now c.offer.result.0.now c.offer.result.1.now c.make-what.result c.make-what.new.links
    c.make-what.ensures (c.offer.ensures.bytes starts past held.stands) (c.offer.ensures.first starts past held.stands) in
    call_sound g.L.Links.effect g.L.Links.shown it.chip c.settle.new.chip it.history c.settle.new.history it.links c.make-what.new.links it.calls c.args.place c.args.call.now c.make-what.result held begins made
    (settled it.chip c.settle.new.chip it.history c.settle.new.history (entry_for (c.args.place / 2) c.make-what.result) c.starts_are.ensures (c.settle.ensures.stands starts past held.stands)
    c.settle.ensures.unstopped c.settle.ensures.past c.settle.ensures.limit c.settle.ensures.events)

pub returns : goal.returns
returns g c =
    let it = c.self.inside in
    let starts = starts_of it.chip in
    let past = it.history.past in
    let held = c.self.invariant in
    let begins = begun c.args.self.now it.chip it.history it.links it.calls c.args.place c.args.call.now c.self.view_is c.requires.begins in
    let made = here g.L.Links.effect g.L.Links.shown it.links starts past (c.args.place / 2) c.args.call.now c.offer.result.0.now c.offer.result.1.now c.make-what.result c.make-what.new.links
    c.make-what.ensures (c.offer.ensures.bytes starts past held.stands) (c.offer.ensures.first starts past held.stands) in
    record {
      called = call_is g.L.Links.effect g.L.Links.shown c.args.self.now it.chip c.settle.new.chip it.history c.settle.new.history it.links c.make-what.new.links it.calls c.args.place c.args.call.now c.make-what.result c.did.result
          c.self.view_is begins made
          (settled it.chip c.settle.new.chip it.history c.settle.new.history (entry_for (c.args.place / 2) c.make-what.result) c.starts_are.ensures (c.settle.ensures.stands starts past held.stands)
          c.settle.ensures.unstopped c.settle.ensures.past c.settle.ensures.limit c.settle.ensures.events)
          c.did.ensures;
    }

use Rattle.std.proofs.Common.{◌≡◌, ◌+◌, ◌-◌, ◌≤◌, ◌<◌, ℕ, min, ap, sym, subst, ◌∙◌, arith}
use Rattle.avr_space.specs.Devices.{passed}
use Rattle.avr_space.specs.Quiet.{IsQuietUntil, PrintsNoneUntil}
use Rattle.avr_space.specs.declared.devices.Devices.{Devices}
use Rattle.avr_timer.specs.Laws.{IsHeld}
use Rattle.avr_mcu.specs.State.{McuState}
use Rattle.avr_mcu.specs.Stretch.{GoesOn}
use Rattle.avr_mcu.proofs.Stretches.{IsAhead, ahead-of, doze-ends}
use Rattle.avr_mcu.proofs.Timing.{passed-cycles}
use Rattle.avr_mcu.proofs.mcu.Mcu.doze.Goals as goal

pub returns-then-slept-gt0-clause-goes : goal.returns-then-slept-gt0-clause-goes
returns-then-slept-gt0-clause-goes c =
    let s : McuState = c.args.self.now in
    let view : McuState = record {
      flash = c.self.inside.code;
      core = c.self.inside.core;
      devices = c.self.inside.devices;
      asleep = c.self.inside.asleep;
      owed = c.self.inside.owed;
      counted = c.self.inside.counted;
      trail = c.self.inside.trail;
    } in
    let is : view ≡ s = c.self.view_is in
    let k : ℕ = c.least_of-slept.result in
    let most : ℕ = c.cycles_ahead.result in
    let clock : c.self.inside.devices.cycles ≡ s.devices.cycles = ap (λ (m : McuState). m.devices.cycles) is in
    let count : c.self.inside.counted ≡ s.counted = ap (λ (m : McuState). m.counted) is in
    let held : IsHeld s.devices.timers = subst (λ (m : McuState). IsHeld m.devices.timers) is c.fits.ensures in
    let prints : PrintsNoneUntil s.devices c.printed_at.result = subst (λ (m : McuState). PrintsNoneUntil m.devices c.printed_at.result) is c.printed_at.ensures in
    let limit_is : s.devices.cycles + most ≤ c.args.limit = subst (λ n. n + most ≤ c.args.limit) clock c.cycles_ahead.ensures.limit in
    let until_is : 0 < most → s.devices.cycles + most ≤ c.min-until.result = λ some. subst (λ n. n + most ≤ c.min-until.result) clock (c.cycles_ahead.ensures.until some) in
    let least : c.min-until.result ≡ min c.calm_until.result c.printed_at.result = c.min-until.ensures in
    let ahead : IsAhead s c.args.limit most most =
    ahead-of s c.args.limit c.printed_at.result c.calm_until.result most most held prints c.calm_until.ensures limit_is
    (λ some. let at = until_is some in omega (arith, at, least)) (λ some. let at = until_is some in omega (arith, at, least)) in
    let room : k ≤ c.args.room = c.least_of-slept.ensures.room in
    let left : s.counted + c.args.room ≤ 63 = c.requires.room in
    let some : 0 < k = c.if-slept-gt0.true in
    let goes : GoesOn c.args.limit k s (record s { devices = passed k s.devices; counted = s.counted + k }) =
    doze-ends s c.args.limit most k ahead c.requires.asleep c.least_of-slept.ensures.cycles (omega (arith, room, left, some)) some in
    subst (λ d. GoesOn c.args.limit k s (record view { devices = d; counted = view.counted + k })) (sym (c.pass.ensures ∙ ap (λ n. passed n view.devices) c.from.ensures))
    (subst (λ (m : McuState). GoesOn c.args.limit k s (record m { devices = passed k m.devices; counted = m.counted + k })) (sym is) goes)

pub returns-then-slept-gt0-clause-from : goal.returns-then-slept-gt0-clause-from
returns-then-slept-gt0-clause-from c =
    let clock : c.self.inside.devices.cycles ≡ c.args.self.now.devices.cycles = ap (λ (m : McuState). m.devices.cycles) c.self.view_is in
    let time : c.pass.new.self.cycles ≡ c.self.inside.devices.cycles + c.from.result = ap (λ (d : Devices). d.cycles) c.pass.ensures ∙ passed-cycles c.from.result c.self.inside.devices in
    omega (arith, clock, time)

pub returns-then-slept-gt0-clause-to : goal.returns-then-slept-gt0-clause-to
returns-then-slept-gt0-clause-to c =
    let time : c.pass.new.self.cycles ≡ c.self.inside.devices.cycles + c.from.result = ap (λ (d : Devices). d.cycles) c.pass.ensures ∙ passed-cycles c.from.result c.self.inside.devices in
    let slept : c.from.result ≡ c.least_of-slept.result = c.from.ensures in
    let few : c.least_of-slept.result ≤ c.cycles_ahead.result = c.least_of-slept.ensures.cycles in
    let ahead : c.self.inside.devices.cycles + c.cycles_ahead.result ≤ c.args.limit = c.cycles_ahead.ensures.limit in
    omega (arith, time, slept, few, ahead)

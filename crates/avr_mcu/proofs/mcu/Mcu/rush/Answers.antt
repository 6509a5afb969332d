use Rattle.std.proofs.Common.{◌≡◌, ◌+◌, ◌≤◌, ◌<◌, ℕ, List, take, ap, sym, subst, ◌∙◌, arith}
use Rattle.avr_space.specs.Devices.{passed}
use Rattle.avr_space.specs.Quiet.{PrintsNoneUntil}
use Rattle.avr_space.specs.declared.devices.Devices.{Devices}
use Rattle.avr_core.specs.declared.cpu.Core.{Core}
use Rattle.avr_timer.specs.Laws.{IsHeld}
use Rattle.avr_mcu.specs.State.{McuState}
use Rattle.avr_mcu.specs.Step.{raises}
use Rattle.avr_mcu.specs.Stretch.{GoesOn, RunsPlain, begun, noted_all}
use Rattle.avr_mcu.proofs.Stretches.{IsAhead, ahead-of, rush-ends}
use Rattle.avr_mcu.proofs.Timing.{passed-cycles}
use Rattle.avr_mcu.proofs.mcu.Mcu.rush.Goals as goal

pub returns-then-ran-gt0-clause-goes : goal.returns-then-ran-gt0-clause-goes
returns-then-ran-gt0-clause-goes c =
    let s : McuState = c.args.self.now in
    let view : McuState = record {
      flash = c.self.inside.code;
      core = c.self.inside.core;
      devices = c.self.inside.devices;
      asleep = c.self.inside.asleep;
      owed = c.self.inside.owed;
      counted = c.self.inside.counted;
      trail = c.self.inside.trail;
    } in
    let is : view ≡ s = c.self.view_is in
    let k : ℕ = c.stretch-ran.result.0 in
    let spent : ℕ = c.stretch-ran.result.1 in
    let most : ℕ = c.cycles_ahead-most.result in
    let calm : ℕ = c.cycles_ahead-calm.result in
    let core : Core = c.stretch-ran.new.core in
    let memory : List ℕ = c.stretch-ran.new.memory in
    let addresses : List ℕ = take k c.stretch-ran.new.addresses in
    let was : ℕ = c.stretch-ran.result.2 in
    let trail : List ℕ = c.note_all.new.self in
    let clock : c.self.inside.devices.cycles ≡ s.devices.cycles = ap (λ (m : McuState). m.devices.cycles) is in
    let count : c.self.inside.counted ≡ s.counted = ap (λ (m : McuState). m.counted) is in
    let held : IsHeld s.devices.timers = subst (λ (m : McuState). IsHeld m.devices.timers) is c.fits.ensures in
    let prints : PrintsNoneUntil s.devices c.printed_at.result = subst (λ (m : McuState). PrintsNoneUntil m.devices c.printed_at.result) is c.printed_at.ensures in
    let ahead : IsAhead s c.args.limit most calm =
    ahead-of s c.args.limit c.printed_at.result c.calm_until.result most calm held prints c.calm_until.ensures
    (subst (λ n. n + most ≤ c.args.limit) clock c.cycles_ahead-most.ensures.limit)
    (λ some. subst (λ n. n + most ≤ c.printed_at.result) clock (c.cycles_ahead-most.ensures.until some))
    (λ some. subst (λ n. n + calm ≤ c.calm_until.result) clock (c.cycles_ahead-calm.ensures.until some)) in
    let room : k ≤ c.args.room = c.stretch-ran.ensures.few in
    let left : s.counted + c.args.room ≤ 63 = c.requires.room in
    let some : 0 < k = c.if-ran-gt0.true in
    let notes : trail ≡ noted_all s.trail addresses =
    c.note_all.ensures ∙ ap (λ (m : McuState). noted_all m.trail addresses) is in
    let runs : RunsPlain s.flash most calm k (begun s.core s.devices.memory) (record { core = core; memory = memory; was = was; addresses = addresses; spent = spent }) =
    subst (λ (m : McuState). RunsPlain m.flash most calm k (begun m.core m.devices.memory) (record { core = core; memory = memory; was = was; addresses = addresses; spent = spent })) is c.stretch-ran.ensures.runs in
    let goes : GoesOn c.args.limit k s (record s { core = core; devices = passed spent (record s.devices { memory = memory }); trail = trail; counted = s.counted + k; owed = raises was core.sreg }) =
    rush-ends s c.args.limit most calm k core memory was addresses trail spent ahead c.requires.awake (omega (arith, room, left, some)) some c.stretch-ran.ensures.least notes runs in
    let owed_is : raises was core.sreg ≡ c.raises-self-inside.result = sym (c.raises-self-inside.ensures ∙ ap (λ v. raises was v) c.sreg.ensures) in
    subst (λ o. GoesOn c.args.limit k s (record view { core = core; devices = c.pass.new.self; trail = trail; counted = view.counted + k; owed = o })) owed_is
    (subst (λ d. GoesOn c.args.limit k s (record view { core = core; devices = d; trail = trail; counted = view.counted + k; owed = raises was core.sreg })) (sym c.pass.ensures)
    (subst (λ (m : McuState). GoesOn c.args.limit k s (record m { core = core; devices = passed spent (record m.devices { memory = memory }); trail = trail; counted = m.counted + k; owed = raises was core.sreg })) (sym is) goes))

pub returns-then-ran-gt0-clause-from : goal.returns-then-ran-gt0-clause-from
returns-then-ran-gt0-clause-from c =
    let clock : c.self.inside.devices.cycles ≡ c.args.self.now.devices.cycles = ap (λ (m : McuState). m.devices.cycles) c.self.view_is in
    let time : c.pass.new.self.cycles ≡ c.self.inside.devices.cycles + c.stretch-ran.result.1 =
    ap (λ (d : Devices). d.cycles) c.pass.ensures ∙ passed-cycles c.stretch-ran.result.1 (record c.self.inside.devices { memory = c.stretch-ran.new.memory }) in
    omega (arith, clock, time)

pub returns-then-ran-gt0-clause-to : goal.returns-then-ran-gt0-clause-to
returns-then-ran-gt0-clause-to c =
    let time : c.pass.new.self.cycles ≡ c.self.inside.devices.cycles + c.stretch-ran.result.1 =
    ap (λ (d : Devices). d.cycles) c.pass.ensures ∙ passed-cycles c.stretch-ran.result.1 (record c.self.inside.devices { memory = c.stretch-ran.new.memory }) in
    let few : c.stretch-ran.result.1 ≤ c.cycles_ahead-most.result + 3 = c.stretch-ran.ensures.time in
    let ahead : c.self.inside.devices.cycles + c.cycles_ahead-most.result ≤ c.args.limit = c.cycles_ahead-most.ensures.limit in
    omega (arith, time, few, ahead)

use Rattle.std.proofs.Common.{◌≡◌, ◌*◌, true, false, sym, ◌∙◌}
use Rattle.chip_shared.specs.Causes.{Does}
use Rattle.chip_shared.specs.Draining.{is_out_due}
use Rattle.chip_shared.specs.declared.shared.LinkDid.TheVariants as did
use Rattle.chip_shared.proofs.OutSteps.{step_as, not_idle, drain_smaller, step_unstopped, drains_step, drains_end, drains_not_yet, drains_fault, drains_refused}
use Rattle.chip_shared.proofs.shared.Shared.drain.Goals as goal

pub loop-self-smaller : goal.loop-self-smaller
loop-self-smaller g c =
    let step = step_as (Does g.L.Links.effect g.L.Links.shown) c.loop-self.self c.link_step.new.self (2 * c.args.sn) c.link_step.result c.in-Ok-Did.field-0 (did.Did c.in-Ok-Did.field-0-0) c.in-Ok-Did.is c.in-Ok-Did.field-0-is c.link_step.ensures.step in
    let is : is_out_due c.loop-self.self c.args.sn ≡ true = sym c.is_outgoing_due.ensures ∙ c.loop-self-test.true in
    drain_smaller (Does g.L.Links.effect g.L.Links.shown) c.loop-self.self c.link_step.new.self c.args.sn c.in-Ok-Did.field-0-0 c.requires.socket is step

pub loop-self-preserved : goal.loop-self-preserved
loop-self-preserved g c =
    let step = step_as (Does g.L.Links.effect g.L.Links.shown) c.loop-self.self c.link_step.new.self (2 * c.args.sn) c.link_step.result c.in-Ok-Did.field-0 (did.Did c.in-Ok-Did.field-0-0) c.in-Ok-Did.is c.in-Ok-Did.field-0-is c.link_step.ensures.step in
    let is : is_out_due c.loop-self.self c.args.sn ≡ true = sym c.is_outgoing_due.ensures ∙ c.loop-self-test.true in
    record {
      on = drains_step (Does g.L.Links.effect g.L.Links.shown) c.args.sn c.args.self.now c.loop-self.self c.link_step.new.self c.in-Ok-Did.field-0-0 c.loop-self.invariant.on is step;
      unstopped = step_unstopped (Does g.L.Links.effect g.L.Links.shown) c.loop-self.self c.link_step.new.self c.args.sn (did.Did c.in-Ok-Did.field-0-0) c.requires.socket is step;
    }

pub returns-in-Ok-NotYet-clause-steps : goal.returns-in-Ok-NotYet-clause-steps
returns-in-Ok-NotYet-clause-steps g c =
    let step = step_as (Does g.L.Links.effect g.L.Links.shown) c.loop-self.self c.link_step.new.self (2 * c.args.sn) c.link_step.result c.in-Ok-NotYet.field-0 (did.NotYet c.in-Ok-NotYet.field-0-0) c.in-Ok-NotYet.is c.in-Ok-NotYet.field-0-is c.link_step.ensures.step in
    let is : is_out_due c.loop-self.self c.args.sn ≡ true = sym c.is_outgoing_due.ensures ∙ c.loop-self-test.true in
    drains_not_yet (Does g.L.Links.effect g.L.Links.shown) c.args.sn c.args.self.now c.loop-self.self c.link_step.new.self c.in-Ok-NotYet.field-0-0 c.loop-self.invariant.on is step

pub returns-in-Ok-Fault-clause-steps : goal.returns-in-Ok-Fault-clause-steps
returns-in-Ok-Fault-clause-steps g c =
    let step = step_as (Does g.L.Links.effect g.L.Links.shown) c.loop-self.self c.link_step.new.self (2 * c.args.sn) c.link_step.result c.in-Ok-Fault.field-0 (did.Fault c.in-Ok-Fault.field-0-0) c.in-Ok-Fault.is c.in-Ok-Fault.field-0-is c.link_step.ensures.step in
    let is : is_out_due c.loop-self.self c.args.sn ≡ true = sym c.is_outgoing_due.ensures ∙ c.loop-self-test.true in
    drains_fault (Does g.L.Links.effect g.L.Links.shown) c.args.sn c.args.self.now c.loop-self.self c.link_step.new.self c.in-Ok-Fault.field-0-0 c.loop-self.invariant.on is step

pub unreachable-requires : goal.unreachable-requires
unreachable-requires g c =
    let step = step_as (Does g.L.Links.effect g.L.Links.shown) c.loop-self.self c.link_step.new.self (2 * c.args.sn) c.link_step.result c.in-Ok-Idle.field-0 did.Idle c.in-Ok-Idle.is c.in-Ok-Idle.field-0-is c.link_step.ensures.step in
    let is : is_out_due c.loop-self.self c.args.sn ≡ true = sym c.is_outgoing_due.ensures ∙ c.loop-self-test.true in
    not_idle (Does g.L.Links.effect g.L.Links.shown) c.loop-self.self c.link_step.new.self c.args.sn c.requires.socket is step

pub returns-in-Err-clause-steps : goal.returns-in-Err-clause-steps
returns-in-Err-clause-steps g c =
    let is : is_out_due c.loop-self.self c.args.sn ≡ true = sym c.is_outgoing_due.ensures ∙ c.loop-self-test.true in
    drains_refused (Does g.L.Links.effect g.L.Links.shown) c.args.sn c.args.self.now c.loop-self.self c.link_step.new.self c.in-Err.end c.loop-self.invariant.on is c.in-Err.ensures.step

pub returns-clause-steps : goal.returns-clause-steps
returns-clause-steps g c =
    let is : is_out_due c.loop-self.self c.args.sn ≡ false = sym c.is_outgoing_due.ensures ∙ c.loop-self-test.false in
    drains_end (Does g.L.Links.effect g.L.Links.shown) c.args.sn c.args.self.now c.loop-self.self c.loop-self.invariant.on is

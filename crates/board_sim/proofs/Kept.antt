-- What each link step keeps, sweeps and closing keep.
use Rattle.std.proofs.Common.{◌≡◌, ℕ, zero, suc, ◌+◌, ◌*◌, Bool, ◌||◌, Option, None, Some, MatchOption, Result, Ok, Err, sym, subst}
use Rattle.chip_sheet.specs.LinkAnswers.{LinkAnswer}
use Rattle.link_trait.specs.Calls.{Call}
use Rattle.chip_shared.specs.State.{State, Keeps}
use Rattle.chip_shared.specs.Calling.{Idles, Called, Steps, first_due}
use Rattle.chip_shared.specs.Draining.{Drains}
use Rattle.chip_shared.specs.Closing.{Closes}
use Rattle.chip_shared.specs.Sweeping.{Sweeps, goes_on_from}
use Rattle.chip_shared.specs.declared.shared.StepEnd.{StepEnd}
use Rattle.chip_shared.specs.declared.shared.LinkDid.{LinkDid}
use Rattle.chip_shared.specs.declared.shared.LinkDid.TheVariants as dids
use Rattle.chip_shared.specs.declared.closing.Closing.{Closing}

abbrev pub Effect : Type 0 → Type 1
Effect L = L → Call → LinkAnswer → L → Type 0

-- It holds of a state and itself and goes on from step to step, and each way a step may go keeps it.
pub record IsKept {L : Type 0} (effect : Effect L) (Kept : State L → State L → Type 0) : Type 0 where
  pub same : (s : State L) → Kept s s
  pub also : (a b c : State L) → Kept a b → Kept b c → Kept a c
  pub refused : (old new : State L) → Keeps old new → Kept old new
  pub idled : (old : State L) (does : LinkDid) (new : State L) → Idles old does new → Kept old new
  pub called : (old : State L) (place : ℕ) (does : LinkDid) (new : State L) → Called effect old place does new → Kept old new

equal_keeps : {L : Type 0} (Kept : State L → State L → Type 0) (old mid new : State L) → new ≡ mid → Kept old mid → Kept old new
equal_keeps Kept old mid new same it = subst (λ (s : State _). Kept old s) (sym same) it

met_keeps : {L : Type 0} (effect : Effect L) (Kept : State L → State L → Type 0) (kept : IsKept effect Kept) (met : Option ℕ) (old : State L) (does : LinkDid) (new : State L)
    → MatchOption met (Idles old does new) (λ place. Called effect old place does new) → Kept old new
met_keeps effect Kept kept None old does new it = kept.idled old does new it
met_keeps effect Kept kept (Some place) old does new it = kept.called old place does new it

step_keeps : {L : Type 0} (effect : Effect L) (Kept : State L → State L → Type 0) (kept : IsKept effect Kept) (old : State L) (from : ℕ) (step : Result LinkDid StepEnd) (new : State L)
    → Steps effect old from step new → Kept old new
step_keeps effect Kept kept old from (Ok does) new it = met_keeps effect Kept kept (first_due old.starts old.log.past from) old does new it.1
step_keeps effect Kept kept old from (Err end_) new it = kept.refused old new it.0

pub sweeps_keep : {L : Type 0} (effect : Effect L) (Kept : State L → State L → Type 0) (kept : IsKept effect Kept) (most : ℕ) (old : State L) (from : Option ℕ) (result : Result (Unit {0}) StepEnd) (new : State L)
    → Sweeps effect most old from result new → Kept old new
sweeps_keep effect Kept kept zero old None result new it = equal_keeps Kept old old new it.1 (kept.same old)
sweeps_keep effect Kept kept zero old (Some from) result new it = absurd it
sweeps_keep effect Kept kept (suc most) old None result new it = equal_keeps Kept old old new it.1 (kept.same old)
sweeps_keep effect Kept kept (suc most) old (Some from) result new (Err end_, (mid, (step, rest))) =
    equal_keeps Kept old mid new rest.1 (step_keeps effect Kept kept old from (Err end_) mid step)
sweeps_keep effect Kept kept (suc most) old (Some from) result new (Ok does, (mid, (step, rest))) =
    kept.also old mid new (step_keeps effect Kept kept old from (Ok does) mid step) (sweeps_keep effect Kept kept most mid (goes_on_from does) result new rest)

drains_keep : {L : Type 0} (effect : Effect L) (Kept : State L → State L → Type 0) (kept : IsKept effect Kept) (most n : ℕ) (old : State L) (result : Result Bool StepEnd) (new : State L)
    → Drains effect most n old result new → Kept old new
drains_keep effect Kept kept zero n old result new it = equal_keeps Kept old old new it.1.1 (kept.same old)
drains_keep effect Kept kept (suc most) n old result new (due, (Err end_, (mid, (step, rest)))) =
    equal_keeps Kept old mid new rest.1 (step_keeps effect Kept kept old (2 * n) (Err end_) mid step)
drains_keep effect Kept kept (suc most) n old result new (due, (Ok (dids.Did place), (mid, (step, rest)))) =
    kept.also old mid new (step_keeps effect Kept kept old (2 * n) (Ok (dids.Did place)) mid step) (drains_keep effect Kept kept most n mid result new rest)
drains_keep effect Kept kept (suc most) n old result new (due, (Ok (dids.NotYet place), (mid, (step, rest)))) =
    equal_keeps Kept old mid new rest.1 (step_keeps effect Kept kept old (2 * n) (Ok (dids.NotYet place)) mid step)
drains_keep effect Kept kept (suc most) n old result new (due, (Ok (dids.Fault place), (mid, (step, rest)))) =
    equal_keeps Kept old mid new rest.1 (step_keeps effect Kept kept old (2 * n) (Ok (dids.Fault place)) mid step)
drains_keep effect Kept kept (suc most) n old result new (due, (Ok dids.Idle, (mid, (step, rest)))) = absurd rest

pub closes_keep : {L : Type 0} (effect : Effect L) (Kept : State L → State L → Type 0) (kept : IsKept effect Kept) (more n : ℕ) (faulted : Bool) (old : State L) (answer : Closing) (new : State L)
    → Closes effect more n faulted old answer new → Kept old new
closes_keep effect Kept kept zero n faulted old answer new it = equal_keeps Kept old old new it.1 (kept.same old)
closes_keep effect Kept kept (suc more) n faulted old answer new (most, (Err end_, (mid, (drains, rest)))) =
    equal_keeps Kept old mid new rest.1 (drains_keep effect Kept kept most n old (Err end_) mid drains)
closes_keep effect Kept kept (suc more) n faulted old answer new (most, (Ok failed, (mid, (drains, rest)))) =
    kept.also old mid new (drains_keep effect Kept kept most n old (Ok failed) mid drains) (closes_keep effect Kept kept more (n + 1) (faulted || failed) mid answer new rest)

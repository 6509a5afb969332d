-- A sweep: link steps one after another, each from the place after the one that was met.
use Rattle.std.specs.Prelude.{◌≡◌, ℕ, zero, suc, ◌+◌, nat_lt, Result, Ok, Err, Option, Some, None, if◌then◌else◌}
use Rattle.chip_sheet.specs.LinkAnswers.{LinkAnswer}
use Rattle.link_trait.specs.Calls.{Call}
use Rattle.chip_shared.specs.State.{State}
use Rattle.chip_shared.specs.Calling.{Steps}
use Rattle.chip_shared.specs.declared.shared.StepEnd.{StepEnd}
use Rattle.chip_shared.specs.declared.shared.LinkDid.{LinkDid}
use Rattle.chip_shared.specs.declared.shared.LinkDid.TheVariants as did

-- From where a sweep goes on: from behind the place that was met, where that is not the last; nowhere after an idle step.
abbrev pub behind : ℕ → Option ℕ
behind place = if nat_lt place 15 then Some (place + 1) else None

abbrev pub goes_on_from : LinkDid → Option ℕ
goes_on_from (did.Did place) = behind place
goes_on_from (did.NotYet place) = behind place
goes_on_from (did.Fault place) = behind place
goes_on_from did.Idle = None

-- A sweep of at most so many steps, from a place on where there is one: each is a link step, and the first that is refused ends it.
abbrev pub Sweeps : {L : Type 0} → (L → Call → LinkAnswer → L → Type 0) → ℕ → State L → Option ℕ → Result (Unit {0}) StepEnd → State L → Type 0
Sweeps effect most old None result new = (result ≡ Ok tt) × (new ≡ old)
Sweeps effect zero old (Some from) result new = ⊥
Sweeps effect (suc most) old (Some from) result new =
    (step : Result LinkDid StepEnd) × ((mid : State _) × (Steps effect old from step mid × elim step [
      | Err end_ ↦ (result ≡ Err end_) × (new ≡ mid)
      | Ok does ↦ Sweeps effect most mid (goes_on_from does) result new
    ]))

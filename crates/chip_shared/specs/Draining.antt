-- The outgoing link steps of one socket, as closing makes them.
use Rattle.std.specs.Prelude.{◌≡◌, ℕ, zero, suc, ◌*◌, Bool, true, false, Result, Ok, Err}
use Rattle.chip_sheet.specs.LinkAnswers.{LinkAnswer}
use Rattle.chip_sheet.specs.LinkCalls.{due_at}
use Rattle.link_trait.specs.Calls.{Call}
use Rattle.chip_shared.specs.State.{State}
use Rattle.chip_shared.specs.Calling.{Steps, is_due}
use Rattle.chip_shared.specs.declared.shared.StepEnd.{StepEnd}
use Rattle.chip_shared.specs.declared.shared.StepEnd.TheVariants as end
use Rattle.chip_shared.specs.declared.shared.LinkDid.{LinkDid}
use Rattle.chip_shared.specs.declared.shared.LinkDid.TheVariants as did

-- A call is due at the outgoing place of socket n.
abbrev pub is_out_due : {L : Type 0} → State L → ℕ → Bool
is_out_due now n = is_due (due_at now.starts now.log.past (2 * n))

-- Link steps at the outgoing place of socket n while something is due there, at most so many. After a call that was answered NotYet
-- or that failed none is made; the answer says whether one failed. The first step that is refused ends it.
abbrev pub Drains : {L : Type 0} → (L → Call → LinkAnswer → L → Type 0) → ℕ → ℕ → State L → Result Bool StepEnd → State L → Type 0
Drains effect zero n old result new = (is_out_due old n ≡ false) × ((result ≡ Ok false) × (new ≡ old))
Drains effect (suc most) n old result new =
    (is_out_due old n ≡ true) × ((step : Result LinkDid StepEnd) × ((mid : State _) × (Steps effect old (2 * n) step mid × elim step [
      | Err end_ ↦ (result ≡ Err end_) × (new ≡ mid)
      | Ok does ↦ elim does [
        | did.Did place ↦ Drains effect most n mid result new
        | did.NotYet place ↦ (result ≡ Ok false) × (new ≡ mid)
        | did.Fault place ↦ (result ≡ Ok true) × (new ≡ mid)
        | did.Idle ↦ ⊥
      ]
    ])))

-- A step was refused, and not for a stop.
abbrev pub IsUnstopped : StepEnd → Type 0
IsUnstopped (end.Stopped s) = ⊥
IsUnstopped end_ = Unit {0}

-- What closing makes of the shared state, and what it leaves in flight.
use Rattle.std.specs.Prelude.{◌≡◌, ℕ, zero, suc, ◌+◌, ◌<◌, Bool, true, false, ◌||◌, Result, Ok, Err}
use Rattle.chip_sheet.specs.LinkAnswers.{LinkAnswer}
use Rattle.chip_sheet.specs.Past.{Past}
use Rattle.chip_sheet.specs.Life.{lives}
use Rattle.chip_sheet.specs.Streams.{Starts}
use Rattle.chip_sheet.specs.Windows.{flight}
use Rattle.chip_hist.specs.Log.{is_full}
use Rattle.link_trait.specs.Calls.{Call}
use Rattle.link_trait.specs.Shown.{Shown}
use Rattle.wz_base.specs.Outside.{Rose}
use Rattle.chip_shared.specs.State.{State}
use Rattle.chip_shared.specs.Draining.{Drains, is_out_due}
use Rattle.chip_shared.specs.declared.shared.StepEnd.{StepEnd}
use Rattle.chip_shared.specs.declared.shared.StepEnd.TheVariants as end
use Rattle.chip_shared.specs.declared.closing.Closing.{Closing}
use Rattle.chip_shared.specs.declared.closing.Closing.TheVariants.{Clear, Waiting, Faulted, Full, NoMemory}

-- No byte is in flight on any socket.
abbrev pub NoneInFlight : Starts → Past → Type 0
NoneInFlight starts past = (n : ℕ) → n < 8 → flight starts past n ≡ 0

-- Bytes are in flight on a socket.
abbrev pub SomeInFlight : Starts → Past → Type 0
SomeInFlight starts past = (n : ℕ) × ((n < 8) × (0 < flight starts past n))

-- The answer once all sockets were gone through, where a call failed or none did.
abbrev pub Ends : Starts → Past → Bool → Closing → Type 0
Ends starts past faulted Clear = NoneInFlight starts past
Ends starts past faulted Faulted = (faulted ≡ true) × SomeInFlight starts past
Ends starts past faulted Waiting = (faulted ≡ false) × SomeInFlight starts past
Ends starts past faulted Full = ⊥
Ends starts past faulted NoMemory = ⊥

-- The answer where a step was refused.
abbrev pub EndsBy : StepEnd → Closing → Type 0
EndsBy end.TraceFull answer = answer ≡ Full
EndsBy end.NoMemory answer = answer ≡ NoMemory
EndsBy (end.Stopped s) answer = ⊥

-- So many sockets from n on are gone through in order, where a call failed before or none did. The first step that is refused ends it.
abbrev pub Closes : {L : Type 0} → (L → Call → LinkAnswer → L → Type 0) → ℕ → ℕ → Bool → State L → Closing → State L → Type 0
Closes effect zero n faulted old answer new = Ends old.starts old.log.past faulted answer × (new ≡ old)
Closes effect (suc more) n faulted old answer new =
    (most : ℕ) × ((drained : Result Bool StepEnd) × ((mid : State _) × (Drains effect most n old drained mid × elim drained [
      | Err end_ ↦ EndsBy end_ answer × (new ≡ mid)
      | Ok failed ↦ Closes effect more (n + 1) (faulted || failed) mid answer new
    ])))

-- Bytes are in flight on a socket only where its last write stalled in its present life, and only where writes stalled since.
pub record Stalls (starts : Starts) (past : Past) (n : ℕ) (old new : Shown) : Type 0 where
  pub life : new.stalled n ≡ lives past n
  pub stalls : Rose old.stalls new.stalls

abbrev pub OnlyStalled : Starts → Past → Shown → Shown → Type 0
OnlyStalled starts past old new = (n : ℕ) → n < 8 → 0 < flight starts past n → Stalls starts past n old new

-- An outgoing step was due.
abbrev pub SomeDue : {L : Type 0} → State L → Type 0
SomeDue now = (n : ℕ) × ((n < 8) × (is_out_due now n ≡ true))

-- What each answer says, by what the links showed before and after.
abbrev pub Leaves : {L : Type 0} → Closing → Shown → State L → Shown → Type 0
Leaves Clear old now new = NoneInFlight now.starts now.log.past
Leaves Waiting old now new = Rose old.waits new.waits × (SomeInFlight now.starts now.log.past × OnlyStalled now.starts now.log.past old new)
Leaves Faulted old now new = Rose old.faults new.faults × (SomeInFlight now.starts now.log.past × OnlyStalled now.starts now.log.past old new)
Leaves Full old now new = SomeDue now × (is_full now.log ≡ true)
Leaves NoMemory old now new = SomeDue now × (is_full now.log ≡ false)

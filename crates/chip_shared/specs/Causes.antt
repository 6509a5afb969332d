-- What a call with its answer makes of links: by their kind, and of the counts that they show. So an answer of a step has its cause
-- in these counts.
use Rattle.std.specs.Prelude.{◌≤◌}
use Rattle.chip_sheet.specs.LinkAnswers.{LinkAnswer}
use Rattle.link_trait.specs.Calls.{Call}
use Rattle.link_trait.specs.Shown.{Shown, Counts}

pub record Does {L : Type 0} (effect : L → Call → LinkAnswer → L → Type 0) (shown : L → Shown) (old : L) (call : Call) (answer : LinkAnswer) (new : L) : Type 0 where
  pub so : effect old call answer new
  pub counts : Counts (shown old) call answer (shown new)

-- No count falls.
pub record Later (old new : Shown) : Type 0 where
  pub faults : old.faults ≤ new.faults
  pub waits : old.waits ≤ new.waits
  pub stalls : old.stalls ≤ new.stalls

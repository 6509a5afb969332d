-- The state between turns, and what always holds of it.
use Rattle.std.specs.Prelude.{◌≡◌, ℕ, ◌+◌, ◌*◌, ◌≤◌, length, Option, Some, None, Bool, true}
use Rattle.board_bus.specs.declared.event.BusEvent.{BusEvent}
use Rattle.chip_sheet.specs.declared.stop.ChipStop.{ChipStop}
use Rattle.chip_sheet.specs.Past.{Past}
use Rattle.chip_sheet.specs.Windows.{most_read}
use Rattle.chip_hist.specs.Log.{begun, is_full, IsLightBy}
use Rattle.chip_hist.specs.declared.limits.TheConstants.{MOST_EVENTS}
use Rattle.chip_shared.specs.State.{State}
use Rattle.chip_lock.specs.declared.over.Over.{Over}
use Rattle.chip_lock.specs.declared.over.Over.TheVariants.{Stopped, TraceFull}

pub record KeptState (L : Type 0) : Type 0 where
  pub state : State L
  -- the first cause for which turns ended
  pub cause : Option Over
  -- how many passes have not ended
  pub live : ℕ
  -- the event of the bus that was asked last
  pub last : BusEvent

abbrev pub past_of : {L : Type 0} → KeptState L → Past
past_of k = k.state.log.past

-- Whether a history that is meant to hold so much takes no more events of a run.
abbrev pub is_full_at : ℕ → Past → Bool
is_full_at limit past = is_full (record { past = past; spare_events = 0; spare_bytes = 0; limit = limit })

-- What a cause says of the state: a stop of the chip is the cause, and the history is full where that is the cause.
pub record Leaves {L : Type 0} (state : State L) (cause : Option Over) : Type 0 where
  pub stopped : (s : ChipStop) → state.stopped ≡ Some s → cause ≡ Some (Stopped s)
  pub full : cause ≡ Some TraceFull → is_full state.log ≡ true

-- What always holds between turns. Each pass that has not ended finds room for its last entry, and while no cause is kept also for a
-- turn before that one.
pub record IsKept {L : Type 0} (state : State L) (cause : Option Over) (live : ℕ) : Type 0 where
  pub leaves : Leaves state cause
  pub light : IsLightBy (begun most_read) state.log
  pub short : length state.log.past + live ≤ MOST_EVENTS + 2
  pub few : live ≤ 2
  pub room : live ≤ state.log.spare_events
  pub turn_room : cause ≡ None → 2 * live ≤ state.log.spare_events
  pub data_room : cause ≡ None → live * most_read ≤ state.log.spare_bytes

-- What an event of the bus makes of the shared state.
use Rattle.std.specs.Prelude.{◌++◌, length, ◌≡◌, ◌⊎◌, ℕ, ◌≤◌, ◌+◌, true, false, Result, Ok, Err, Some, None, ◌∷◌}
use Rattle.board_bus.specs.declared.event.BusEvent.{BusEvent}
use Rattle.board_bus.specs.declared.event.BusAnswer.{BusAnswer}
use Rattle.board_bus.specs.declared.event.BusAnswer.TheVariants.{Out}
use Rattle.chip_sheet.specs.declared.phase.Access.TheVariants.{Write}
use Rattle.chip_sheet.specs.Frames.{access}
use Rattle.chip_sheet.specs.Names.{sn_cr, send_command}
use Rattle.chip_sheet.specs.Blocks.{registers_of}
use Rattle.chip_sheet.specs.Life.{status, lives, is_udp}
use Rattle.chip_sheet.specs.Streams.{sent, sends, range, range_length}
use Rattle.chip_sheet.specs.Windows.{flight, tx_free}
use Rattle.chip_sheet.specs.declared.event.Entry.TheVariants.{Bus}
use Rattle.chip_sheet.specs.Answers.{answer}
use Rattle.chip_sheet.specs.Stops.{stop}
use Rattle.chip_hist.specs.Log.{is_full}
use Rattle.chip_shared.specs.State.{State, Keeps}
use Rattle.chip_shared.specs.declared.shared.StepEnd.{StepEnd}
use Rattle.chip_shared.specs.declared.shared.StepEnd.TheVariants.{Stopped, TraceFull, NoMemory}

-- A step may be made: there is no stop, and the history has not reached its limit.
pub record IsOpen {L : Type 0} (old : State L) : Type 0 where
  pub unstopped : old.stopped ≡ None
  pub room : is_full old.log ≡ false

-- The event has no stop; it stands in the history with the datasheet's answer, and nothing else has changed.
pub record Answered {L : Type 0} (old : State L) (e : BusEvent) (a : BusAnswer) (new : State L) : Type 0 where
  pub before : IsOpen old
  pub allowed : stop old.starts old.log.past e ≡ None
  pub is : a ≡ answer old.starts old.log.past e
  pub past : new.log.past ≡ Bus e a ∷ old.log.past
  pub limit : new.log.limit ≡ old.log.limit
  pub stopped : new.stopped ≡ None
  pub starts : new.starts ≡ old.starts
  pub links : new.links ≡ old.links
  pub calls : new.calls ≡ old.calls
  -- it takes the room of one event
  pub events : old.log.spare_events ≤ new.log.spare_events + 1
  pub bytes : old.log.spare_bytes ≤ new.log.spare_bytes

-- Why a step is refused before anything is asked: a stop that was answered, a history at its limit, or room that is missing and was
-- not given.
abbrev pub Refused : {L : Type 0} → State L → (ℕ → ℕ → Type 0) → StepEnd → Type 0
Refused old Short (Stopped s) = old.stopped ≡ Some s
Refused old Short TraceFull = (old.stopped ≡ None) × (is_full old.log ≡ true)
Refused old Short NoMemory = IsOpen old × Short old.log.spare_events old.log.spare_bytes

-- The event has this stop after what happened.
abbrev pub StopsAt : {L : Type 0} → State L → BusEvent → StepEnd → State L → Type 0
StopsAt old e (Stopped s) new = IsOpen old × ((stop old.starts old.log.past e ≡ Some s) × (new.stopped ≡ Some s))
StopsAt old e end_ new = ⊥

-- What `bus_step` makes of it. A new stop is kept, and nothing else changes.
abbrev pub Asks : {L : Type 0} → State L → BusEvent → Result BusAnswer StepEnd → State L → Type 0
Asks old e (Ok a) new = Answered old e a new
Asks old e (Err end_) new = Keeps old new × ((Refused old (λ events bytes. events ≡ 0) end_ × (new.stopped ≡ old.stopped)) ⊎ StopsAt old e end_ new)

-- The event is a SEND on socket n, in a status that takes it, of a range that is free; in UDP with no datagram in flight.
pub record Fits {L : Type 0} (old : State L) (e : BusEvent) (n : ℕ) : Type 0 where
  pub is : access old.log.past e ≡ Write (registers_of n) sn_cr send_command
  pub takes : sends (status old.log.past n) ≡ true
  pub idle : is_udp (status old.log.past n) ≡ true → flight old.starts old.log.past n ≡ 0
  pub room : range_length old.starts old.log.past n (length (sent old.starts old.log.past n (lives old.log.past n))) ≤ tx_free old.starts old.log.past n

-- It is answered 00, and adds exactly its range to what was sent.
pub record Goes {L : Type 0} (old : State L) (n : ℕ) (result : Result BusAnswer StepEnd) (new : State L) : Type 0 where
  pub is : result ≡ Ok (Out 0x00)
  pub adds : sent new.starts new.log.past n (lives old.log.past n)
      ≡ sent old.starts old.log.past n (lives old.log.past n) ++ range old.starts old.log.past n (length (sent old.starts old.log.past n (lives old.log.past n)))

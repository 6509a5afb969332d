-- What one turn makes of the state: exactly one entry more.
use Rattle.std.specs.Prelude.{◌≡◌, ℕ, ◌+◌, ◌<◌, ◌^◌, ◌/◌, ◌∷◌, length, true, false, Option, Some, None, MatchOption, Result, Ok, Err}
use Rattle.std.specs.Option.{unwrap_or}
use Rattle.board_bus.specs.declared.event.BusEvent.{BusEvent}
use Rattle.board_bus.specs.declared.event.BusAnswer.{BusAnswer}
use Rattle.chip_sheet.specs.declared.event.Entry.{Entry}
use Rattle.chip_sheet.specs.declared.event.Entry.TheVariants.{Bus, Rest}
use Rattle.chip_sheet.specs.declared.stop.ChipStop.{ChipStop}
use Rattle.chip_sheet.specs.Answers.{answer}
use Rattle.chip_sheet.specs.LinkAnswers.{LinkAnswer, entry_by, may_answer}
use Rattle.chip_sheet.specs.LinkCalls.{due_at}
use Rattle.chip_sheet.specs.Past.{Past}
use Rattle.chip_sheet.specs.Stops.{stop}
use Rattle.chip_sheet.specs.Streams.{Starts}
use Rattle.chip_sheet.specs.Windows.{flight, offered_length, room_length}
use Rattle.chip_shared.specs.Calling.{did_at, first_due}
use Rattle.chip_shared.specs.declared.shared.LinkDid.{LinkDid}
use Rattle.chip_shared.specs.declared.shared.LinkDid.TheVariants.{Did, NotYet, Fault, Idle}
use Rattle.chip_lock.specs.declared.over.Over.{Over}
use Rattle.chip_lock.specs.declared.over.Over.TheVariants.{Stopped}
use Rattle.chip_lock.specs.Causes.{StopsHere}
use Rattle.chip_lock.specs.Overs.{IsGiven}
use Rattle.chip_lock.specs.Standing.{KeptState, is_full_at, past_of}

-- How many link calls a link step made.
abbrev pub called : LinkDid → ℕ
called (Did place) = 1
called (NotYet place) = 1
called (Fault place) = 1
called Idle = 0

-- The call that is due at a place was made: its answer is one that may come, and the entry and what the step says are by that answer.
pub record AnswersAt (starts : Starts) (past : Past) (place : ℕ) (did : LinkDid) (entry : Entry) : Type 0 where
  pub answer : LinkAnswer
  pub may : may_answer (due_at starts past place) (offered_length starts past (place / 2)) (room_length starts past (place / 2)) answer ≡ true
  pub is : entry ≡ entry_by (place / 2) (flight starts past (place / 2)) (due_at starts past place) answer
  pub does : did ≡ did_at place answer

-- Nothing was due, and nothing happened.
pub record IdlesAt (did : LinkDid) (entry : Entry) : Type 0 where
  pub is : entry ≡ Rest
  pub does : did ≡ Idle

-- What a link step at the places from this one on says, and the entry that it adds: by the first place at which a call is due.
abbrev pub LinksAt : Starts → Past → ℕ → LinkDid → Entry → Type 0
LinksAt starts past from did entry = MatchOption (first_due starts past from) (IdlesAt did entry) (λ place. AnswersAt starts past place did entry)

-- What each turn does: one entry is added. Where a cause is kept, it stays and nothing happens; where a stop becomes the cause,
-- nothing happens, the history was not full, and the event that was asked last has that stop.
pub record Takes {L : Type 0} (old : KeptState L) (entry : Entry) (new : KeptState L) : Type 0 where
  pub adds : past_of new ≡ entry ∷ past_of old
  pub starts : new.state.starts ≡ old.state.starts
  pub limit : new.state.log.limit ≡ old.state.log.limit
  pub keeps : (c : Over) → old.cause ≡ Some c → new.cause ≡ Some c
  pub rests : (c : Over) → old.cause ≡ Some c → entry ≡ Rest
  pub stops : (s : ChipStop) → old.cause ≡ None → new.cause ≡ Some (Stopped s) → (entry ≡ Rest) × StopsHere old.state.starts old.state.log.limit (past_of old) new.last s
  pub short : length (past_of new) < 2 ^ 60

abbrev pub TakesOne : {L : Type 0} → KeptState L → KeptState L → Type 0
TakesOne old new = (entry : Entry) × Takes old entry new

-- The pass ends with this cause, and nothing else happens.
pub record Ends {L : Type 0} (old : KeptState L) (why : Over) (new : KeptState L) : Type 0 where
  pub adds : past_of new ≡ Rest ∷ past_of old
  pub cause : new.cause ≡ Some why
  pub live : new.live + 1 ≡ old.live
  pub calls : new.state.calls ≡ old.state.calls

-- A turn with which its pass ends: the first cause is the one that is kept.
pub record EndTurn {L : Type 0} (old : KeptState L) (why result : Over) (new : KeptState L) : Type 0 where
  pub first : result ≡ unwrap_or old.cause why
  pub ends : Ends old result new
  pub last : new.last ≡ old.last

-- The event was asked, and answered by the datasheet.
pub record BusMade {L : Type 0} (old : KeptState L) (e : BusEvent) (a : BusAnswer) (new : KeptState L) : Type 0 where
  pub before : old.cause ≡ None
  pub room : is_full_at old.state.log.limit (past_of old) ≡ false
  pub allowed : stop old.state.starts (past_of old) e ≡ None
  pub is : a ≡ answer old.state.starts (past_of old) e
  pub adds : past_of new ≡ Bus e a ∷ past_of old
  pub live : new.live ≡ old.live
  pub calls : new.state.calls ≡ old.state.calls

-- A turn with one event of the bus.
abbrev pub BusTurn : {L : Type 0} → KeptState L → BusEvent → Result BusAnswer Over → KeptState L → Type 0
BusTurn old e (Ok a) new = BusMade old e a new
BusTurn old e (Err why) new = Ends old why new

-- A link step was made.
pub record LinkMade {L : Type 0} (old : KeptState L) (from : ℕ) (did : LinkDid) (new : KeptState L) : Type 0 where
  pub before : old.cause ≡ None
  pub room : is_full_at old.state.log.limit (past_of old) ≡ false
  pub entry : Entry
  pub is : LinksAt old.state.starts (past_of old) from did entry
  pub adds : past_of new ≡ entry ∷ past_of old
  pub live : new.live ≡ old.live
  pub calls : new.state.calls ≡ old.state.calls + called did

-- A turn with one link step.
abbrev pub LinkTurn : {L : Type 0} → KeptState L → ℕ → Result LinkDid Over → KeptState L → Type 0
LinkTurn old from (Ok did) new = LinkMade old from did new
LinkTurn old from (Err why) new = Ends old why new

-- A stop that becomes the cause was found with this event.
abbrev pub FindsWith : {L : Type 0} → BusEvent → KeptState L → KeptState L → Type 0
FindsWith e old new = (s : ChipStop) → old.cause ≡ None → new.cause ≡ Some (Stopped s) → new.last ≡ e

-- No stop becomes the cause.
abbrev pub FindsNone : Option Over → Option Over → Type 0
FindsNone before now = (s : ChipStop) → before ≡ None → now ≡ Some (Stopped s) → ⊥

-- No cause that is given from outside becomes the cause.
abbrev pub GivesNone : Option Over → Option Over → Type 0
GivesNone before now = (c : Over) → before ≡ None → now ≡ Some c → IsGiven c → ⊥

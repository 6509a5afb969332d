-- What contracts see of a pass, and of the turns that it takes. Lists have the newest first.
use Rattle.std.specs.Prelude.{◌≡◌, ℕ, ◌+◌, List, [], ◌∷◌, map, ◌⊎◌, length, Option, Some, None, true, false}
use Rattle.atomic_table.specs.Seated.{TableId}
use Rattle.board_bus.specs.declared.event.BusEvent.{BusEvent}
use Rattle.board_bus.specs.declared.event.BusAnswer.{BusAnswer}
use Rattle.chip_sheet.specs.declared.event.Entry.{Entry}
use Rattle.chip_sheet.specs.declared.event.Entry.TheVariants.{Bus, Rest}
use Rattle.chip_sheet.specs.declared.stop.ChipStop.{ChipStop}
use Rattle.chip_sheet.specs.Answers.{answer}
use Rattle.chip_sheet.specs.Past.{Past, GoesOn, exchanges}
use Rattle.chip_sheet.specs.Stops.{stop}
use Rattle.chip_sheet.specs.Streams.{Starts}
use Rattle.chip_hist.specs.Log.{is_full}
use Rattle.chip_shared.specs.State.{State}
use Rattle.chip_shared.specs.declared.shared.LinkDid.{LinkDid}
use Rattle.chip_lock.specs.declared.over.Found.{Found}
use Rattle.chip_lock.specs.declared.over.Over.{Over}
use Rattle.chip_lock.specs.declared.over.Over.TheVariants.{Stopped, TraceFull}
use Rattle.chip_lock.specs.declared.table.View.{View}
use Rattle.chip_lock.specs.Causes.{Owns, WereFound}
use Rattle.chip_lock.specs.Lists.{IsWoven}
use Rattle.chip_lock.specs.Standing.{is_full_at}
use Rattle.chip_lock.specs.Turns.{LinksAt, called}
use Rattle.chip_lock.specs.Views.{Placed, starts_in}

pub record PassView : Type 0 where
  -- which turns it is of
  pub turn : TableId
  -- where the positions of connections begin, and the weight that the history is meant to hold: the same at every turn
  pub starts : Starts
  pub limit : ℕ
  -- what had happened when it saw the history last
  pub seen : Past
  -- its own entries, with their places in the history
  pub mine : List Placed
  -- how many link calls its turns made
  pub asked : ℕ
  -- the cause with which it has ended
  pub ended : Option Over
  -- the stop that it found first of all, and the cause that it gave first of all
  pub found : Option Found
  pub gave : Option Over

abbrev pub pass_view : TableId → View → PassView
pass_view turn v = record { turn = turn; starts = starts_in v.terms; limit = v.terms.limit; seen = v.seen; mine = v.mine; asked = v.asked; ended = v.ended; found = v.found; gave = v.gave }

-- The pass before its first turn, over this state.
abbrev pub fresh : {L : Type 0} → TableId → State L → PassView
fresh turn s = record { turn = turn; starts = s.starts; limit = s.log.limit; seen = []; mine = []; asked = 0; ended = None; found = None; gave = None }

-- The events of the bus that a pass made, with their answers, the oldest first.
abbrev pub exchanges_of : List Placed → List (BusEvent × BusAnswer)
exchanges_of mine = exchanges (map (λ x. x.1) mine)

-- The pass is of the same turns, on the same terms.
pub record StaysOf (old new : PassView) : Type 0 where
  pub turn : new.turn ≡ old.turn
  pub starts : new.starts ≡ old.starts
  pub limit : new.limit ≡ old.limit

-- A turn came after this past, which goes on from all that the pass had seen. It added one entry, which is the pass's own, and so many
-- link calls were made.
pub record Adds (old : PassView) (past : Past) (entry : Entry) (calls : ℕ) (new : PassView) : Type 0 where
  pub later : GoesOn old.seen past
  pub seen : new.seen ≡ entry ∷ past
  pub mine : new.mine ≡ (length past, entry) ∷ old.mine
  pub asked : new.asked ≡ old.asked + calls

-- The pass had not ended, and has not. Its turn came after some past at which the history was not full; the event has no stop there, and
-- was answered by the datasheet.
pub record BusTaken (old : PassView) (e : BusEvent) (a : BusAnswer) (new : PassView) : Type 0 where
  pub before : old.ended ≡ None
  pub past : Past
  pub room : is_full_at old.limit past ≡ false
  pub allowed : stop old.starts past e ≡ None
  pub is : a ≡ answer old.starts past e
  pub adds : Adds old past (Bus e a) 0 new
  pub ended : new.ended ≡ None
  pub found : new.found ≡ old.found

-- The same of a link step: its answer and its entry are by the first place at which a call is due.
pub record LinkTaken (old : PassView) (from : ℕ) (did : LinkDid) (new : PassView) : Type 0 where
  pub before : old.ended ≡ None
  pub past : Past
  pub entry : Entry
  pub room : is_full_at old.limit past ≡ false
  pub is : LinksAt old.starts past from did entry
  pub adds : Adds old past entry (called did) new
  pub ended : new.ended ≡ None

-- The pass ends with this cause, in a turn after this past in which nothing happened.
pub record EndsAt (old : PassView) (past : Past) (why : Over) (new : PassView) : Type 0 where
  pub before : old.ended ≡ None
  pub ended : new.ended ≡ Some why
  pub adds : Adds old past Rest 0 new

-- The pass had ended with this cause, and nothing changed; or it ends with it.
abbrev pub EndsPass : PassView → Over → PassView → Type 0
EndsPass old why new = ((old.ended ≡ Some why) × (new ≡ old)) ⊎ ((past : Past) × EndsAt old past why new)

-- The cause is a stop that the event has after this past, at which the history was not full, and it was found here.
pub record FindsStop (starts : Starts) (limit : ℕ) (past : Past) (e : BusEvent) (why : Over) (found : Option Found) : Type 0 where
  pub room : is_full_at limit past ≡ false
  pub stop_is : ChipStop
  pub why_is : why ≡ Stopped stop_is
  pub stops : stop starts past e ≡ Some stop_is
  pub is : found ≡ Some (record { place = length past; event = e; stop = stop_is })

-- The pass ends at an event of the bus. What it has found more is a stop of this event.
pub record BusEnds (old : PassView) (e : BusEvent) (why : Over) (new : PassView) : Type 0 where
  pub past : Past
  pub ends : EndsAt old past why new
  pub found : (new.found ≡ old.found) ⊎ FindsStop old.starts old.limit past e why new.found

abbrev pub BusRefused : PassView → BusEvent → Over → PassView → Type 0
BusRefused old e why new = ((old.ended ≡ Some why) × (new ≡ old)) ⊎ BusEnds old e why new

-- What the pass has given more is this cause, which is then the one that is kept.
abbrev pub GivesBy : Over → PassView → Over → PassView → Type 0
GivesBy why old kept new = (new.gave ≡ old.gave) ⊎ ((new.gave ≡ Some why) × (kept ≡ why))

-- A cause with which one of the two ended.
abbrev pub HaveEnded : PassView → PassView → Over → Type 0
HaveEnded a b c = (a.ended ≡ Some c) ⊎ (b.ended ≡ Some c)

-- One of the two found this stop, or gave this cause.
abbrev pub IsOfOne : PassView → PassView → Over → Type 0
IsOfOne a b c = Owns c a.found a.gave ⊎ Owns c b.found b.gave

-- The state that both passes leave.
pub record Closes {L : Type 0} (a b : PassView) (now : State L) : Type 0 where
  pub starts : now.starts ≡ a.starts
  pub limit : now.log.limit ≡ a.limit
  -- each place of the history stands in exactly one of the two lists, with its entry
  pub woven : IsWoven a.mine b.mine now.log.past
  -- where the second made no event of the bus, those of the history are the first one's, in its order
  pub bus : exchanges_of b.mine ≡ [] → exchanges now.log.past ≡ exchanges_of a.mine
  -- each had seen an earlier past of it
  pub first : GoesOn a.seen now.log.past
  pub second : GoesOn b.seen now.log.past
  pub calls : now.calls ≡ a.asked + b.asked
  -- both ended with one cause, which comes from one of them
  pub cause : (c d : Over) → HaveEnded a b c → HaveEnded a b d → c ≡ d
  pub origin : (c : Over) → HaveEnded a b c → IsOfOne a b c
  -- what was found was found while the history was not full, and nothing happened from there on
  pub found : WereFound now.starts now.log.limit now.log.past a.found
  pub other_found : WereFound now.starts now.log.limit now.log.past b.found
  pub full : HaveEnded a b TraceFull → is_full now.log ≡ true
  -- a stop of the chip was found by one of them, and is the cause
  pub stopped : (s : ChipStop) → now.stopped ≡ Some s → IsOfOne a b (Stopped s)
  pub stop_is : (s : ChipStop) (c : Over) → now.stopped ≡ Some s → HaveEnded a b c → c ≡ Stopped s

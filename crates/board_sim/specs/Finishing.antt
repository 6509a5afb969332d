-- The end of a run: closing, the cause of its end, and the report.
use Rattle.std.specs.Prelude.{◌≡◌, ℕ, List, Option, Some}
use Rattle.wz_base.specs.Whole.{Appends, AppendsFront}
use Rattle.chip_sheet.specs.Legal.{Legal}
use Rattle.chip_shared.specs.Tied.{Tied}
use Rattle.link_script.specs.Links.{played_of}
use Rattle.link_script.specs.Play.{shown}
use Rattle.avr_mcu.specs.State.{McuState, printed}
use Rattle.board_sim.specs.Boards.{Board}
use Rattle.board_sim.specs.Schedule.{Outcome, finished, sched, turn}
use Rattle.board_sim.specs.Ends.{OnItsWay}
use Rattle.board_sim.specs.Playing.{Printed, Prints}
use Rattle.board_sim.specs.Seats.{Seat}
use Rattle.board_sim.specs.declared.play.Cut.{Cut}
use Rattle.board_sim.specs.declared.play.Cut.TheVariants as cuts
use Rattle.board_sim.specs.declared.end.RunEnd.{RunEnd}
use Rattle.board_sim.specs.declared.end.RunEnd.TheVariants as ends
use Rattle.board_sim.specs.declared.end.SimEnd.{SimEnd}

-- The end, the history and the peers of an outcome.
pub record Leaves (o : Outcome) (end : RunEnd) (left : Board) : Type 0 where
  pub end_is : end ≡ o.end
  pub past_is : left.past ≡ o.past
  pub links_are : left.links ≡ o.links

-- What is made of a cut run by what cut it: where its last step ended it, that is finished by the schedule. Where memory runs out, there
-- is no more to say, but that no byte failed to be written.
abbrev pub Finishes : RunEnd → Cut → McuState → Board → Board → Type 0
Finishes ends.NoMemory cuts.WriteFault s b left = ⊥
Finishes ends.NoMemory cut s b left = Unit {0}
Finishes end (cuts.Step e) s b left = Leaves (finished s b e) end left
Finishes end cuts.TraceFull s b left = (end ≡ ends.TraceFull) × (left ≡ b)
Finishes end cuts.WriteFault s b left = (end ≡ ends.WriteFault) × (left ≡ b)
Finishes end cuts.NoMemory s b left = ⊥

-- A whole run but for its report.
pub record RanWhole (o : Outcome) (end : RunEnd) (s : McuState) (left : Board) (old new : Printed) : Type 0 where
  pub leaves : Leaves o end left
  pub cycles_are : s.devices.cycles ≡ o.cycles
  pub trail_is : s.trail ≡ o.trail
  pub prints : Prints old o.serial new

-- A run that stopped at a byte that could not be written.
pub record RanToByte (cycles : ℕ) (image : List ℕ) (b left : Board) (old new : Option (List ℕ)) : Type 0 where
  pub on : OnItsWay cycles image b old new
  pub byte : ℕ
  pub prints : printed (turn cycles on.at.state on.at.board).state ≡ Some byte
  pub stays : left ≡ (turn cycles on.at.state on.at.board).board

-- What a run comes to before its report, by its end.
abbrev pub RanTo : RunEnd → ℕ → List ℕ → Board → McuState → Board → Printed → Printed → Type 0
RanTo ends.WriteFault cycles image b s left old new = RanToByte cycles image b left old.written new.written
RanTo ends.NoMemory cycles image b s left old new = AppendsFront old.written (sched cycles image b).serial new.written
RanTo end cycles image b s left old new = RanWhole (sched cycles image b) end s left old new

-- A report, or a trace, behind a run that ended so: it was written whole, or a prefix of it was and the write failed, or memory ran out
-- and a prefix of it was written.
abbrev pub Reports : RunEnd → List ℕ → RunEnd → Option (List ℕ) → Option (List ℕ) → Type 0
Reports end text ends.WriteFault old new = AppendsFront old text new
Reports end text ends.NoMemory old new = AppendsFront old text new
Reports end text result old new = (result ≡ end) × Appends old text new

-- A report or a trace, where one is due: behind a failed write, and where memory ran out, there is none.
abbrev pub ReportsBehind : RunEnd → List ℕ → RunEnd → Option (List ℕ) → Option (List ℕ) → Type 0
ReportsBehind ends.WriteFault text result old new = (result ≡ ends.WriteFault) × (new ≡ old)
ReportsBehind ends.NoMemory text result old new = (result ≡ ends.NoMemory) × (new ≡ old)
ReportsBehind end text result old new = Reports end text result old new

-- What is left of a run: its history, its peers, and its cycles. The history is legal, and the peers agree with it.
pub record IsLeft (seat : Seat) (s : McuState) (r : SimEnd) : Type 0 where
  pub past_is : r.history.past ≡ seat.now.log.past
  pub links_are : r.links ≡ Some seat.now.links
  pub cycles_are : r.cycles ≡ s.devices.cycles
  pub legal : Legal seat.now.starts seat.now.log.past
  pub tied : Tied seat.now.starts seat.now.log.past (shown (played_of seat.now.links))

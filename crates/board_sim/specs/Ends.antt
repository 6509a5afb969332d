-- What the calls of scripted runs leave, by the schedule.
use Rattle.std.specs.Prelude.{◌≡◌, ◌⊎◌, ℕ, List, [], ◌++◌, Option, Some, None, IfSome}
use Rattle.wz_base.specs.Whole.{Appends, AppendsFront}
use Rattle.wz_base.specs.Outside.{RisesOnly}
use Rattle.chip_sheet.specs.Past.{Past}
use Rattle.chip_sheet.specs.Streams.{Starts}
use Rattle.chip_sheet.specs.Legal.{Legal}
use Rattle.chip_shared.specs.Tied.{Tied}
use Rattle.link_script.specs.Play.{shown}
use Rattle.link_script.specs.Links.{played_of}
use Rattle.link_script.specs.declared.script_links.ScriptLinks.{ScriptLinks}
use Rattle.avr_mcu.specs.State.{reset_state, printed}
use Rattle.board_file.specs.Boards.{Setup}
use Rattle.board_sim.specs.Boards.{Board, fresh}
use Rattle.board_sim.specs.Report.{last_behind, report_of}
use Rattle.board_sim.specs.Schedule.{Outcome, Standing, GoesTo, turn, sched}
use Rattle.board_sim.specs.Traced.{trace_text}
use Rattle.board_sim.specs.declared.end.RunEnd.{RunEnd}
use Rattle.board_sim.specs.declared.end.RunEnd.TheVariants as ends
use Rattle.board_sim.specs.declared.end.SimEnd.{SimEnd}

-- The history and the peers that a call leaves are these.
abbrev pub Leaves : Past → Option ScriptLinks → Board → Type 0
Leaves past None b = ⊥
Leaves past (Some links) b = (past ≡ b.past) × (played_of links ≡ b.links)

-- The run stands somewhere on its way, and this was printed of it.
pub record OnItsWay (cycles : ℕ) (image : List ℕ) (b : Board) (old new : Option (List ℕ)) : Type 0 where
  pub steps : ℕ
  pub at : Standing
  pub goes : GoesTo steps cycles (record { state = reset_state image; board = b; serial = [] }) at
  pub wrote : Appends old at.serial new

-- A serial byte could not be written: the history and the peers are those after the step that printed it, before any sweep behind it, and
-- what was written is what the steps before it printed.
pub record StopsAtByte (cycles : ℕ) (image : List ℕ) (b : Board) (past : Past) (links : Option ScriptLinks) (old new : Option (List ℕ)) : Type 0 where
  pub on : OnItsWay cycles image b old new
  pub byte : ℕ
  pub prints : printed (turn cycles on.at.state on.at.board).state ≡ Some byte
  pub leaves : Leaves past links (turn cycles on.at.state on.at.board).board

-- The run is whole, and its report could not be written whole: all that the firmware printed was.
pub record StopsAtReport (o : Outcome) (report : List ℕ) (past : Past) (links : Option ScriptLinks) (old new : Option (List ℕ)) : Type 0 where
  pub past_is : past ≡ o.past
  pub links_are : (kept : ScriptLinks) × ((links ≡ Some kept) × (played_of kept ≡ o.links))
  pub text : Option (List ℕ)
  pub printed_all : Appends old o.serial text
  pub wrote : AppendsFront text report new

-- The run is whole: history, peers, cycles, end and text are the schedule's.
pub record IsWhole (o : Outcome) (text : List ℕ) (r : SimEnd) (old new : Option (List ℕ)) : Type 0 where
  pub end_is : r.end ≡ o.end
  pub past_is : r.history.past ≡ o.past
  pub links_are : (kept : ScriptLinks) × ((r.links ≡ Some kept) × (played_of kept ≡ o.links))
  pub cycles_are : r.cycles ≡ o.cycles
  pub wrote : Appends old text new

-- Where the positions of a board's connections begin, and the board before the first step.
abbrev pub starts_of : Setup → Starts
starts_of setup = record { tx = setup.tx_start; rx = setup.rx_start }

abbrev pub fresh_board : Setup → Board
fresh_board setup = fresh (starts_of setup) setup.events setup.peers

-- What the run of an image on a board comes to.
abbrev pub outcome : List ℕ → Setup → Outcome
outcome image setup = sched setup.cycles image (fresh_board setup)

-- Its report, and the text of `sim`: what the firmware prints, and the report behind it.
abbrev pub report_text : Setup → Outcome → List ℕ
report_text setup o = report_of (starts_of setup) o.past (last_behind None o.serial) o.cycles o.trail o.end

abbrev pub sim_text : Setup → Outcome → List ℕ
sim_text setup o = o.serial ++ report_text setup o

-- What `sim` leaves, by its end: where a write failed, a serial byte could not be written, or the report could not; where memory ran
-- out, a prefix of the text was written; every other end is the schedule's.
abbrev pub SimBy : RunEnd → List ℕ → Setup → SimEnd → Option (List ℕ) → Option (List ℕ) → Type 0
SimBy ends.WriteFault image setup r old new =
    StopsAtByte setup.cycles image (fresh_board setup) r.history.past r.links old new
    ⊎ StopsAtReport (outcome image setup) (report_text setup (outcome image setup)) r.history.past r.links old new
SimBy ends.NoMemory image setup r old new = AppendsFront old (sim_text setup (outcome image setup)) new
SimBy end image setup r old new = IsWhole (outcome image setup) (sim_text setup (outcome image setup)) r old new

-- What `trace` leaves, which prints no serial byte and no report, but the trace of the whole history.
abbrev pub traced : Setup → Outcome → List ℕ
traced setup o = trace_text (starts_of setup) o.past

-- The run is whole, and its trace could not be written whole.
pub record StopsAtTrace (o : Outcome) (text : List ℕ) (past : Past) (links : Option ScriptLinks) (old new : Option (List ℕ)) : Type 0 where
  pub past_is : past ≡ o.past
  pub links_are : (kept : ScriptLinks) × ((links ≡ Some kept) × (played_of kept ≡ o.links))
  pub wrote : AppendsFront old text new

abbrev pub TraceBy : RunEnd → List ℕ → Setup → SimEnd → Option (List ℕ) → Option (List ℕ) → Type 0
TraceBy ends.WriteFault image setup r old new =
    StopsAtTrace (outcome image setup) (traced setup (outcome image setup)) r.history.past r.links old new
TraceBy ends.NoMemory image setup r old new = AppendsFront old (traced setup (outcome image setup)) new
TraceBy end image setup r old new = IsWhole (outcome image setup) (traced setup (outcome image setup)) r old new

-- What always holds of what a call leaves, over a sink that had these counts of faults before and after: its history is legal, and the
-- peers agree with it; there are none only where memory ran out; and a write fault stands exactly where the count rose.
pub record Holds (setup : Setup) (r : SimEnd) (before after : ℕ) : Type 0 where
  pub legal : Legal (starts_of setup) r.history.past
  pub tied : IfSome r.links (λ links. Tied (starts_of setup) r.history.past (shown (played_of links)))
  pub made : r.links ≡ None → r.end ≡ ends.NoMemory
  pub causes : RisesOnly (r.end ≡ ends.WriteFault) before after

pub record Sims (image : List ℕ) (setup : Setup) (r : SimEnd) (old new : Option (List ℕ)) (before after : ℕ) : Type 0 where
  pub by : SimBy r.end image setup r old new
  pub holds : Holds setup r before after

pub record TracesRun (image : List ℕ) (setup : Setup) (r : SimEnd) (old new : Option (List ℕ)) (before after : ℕ) : Type 0 where
  pub by : TraceBy r.end image setup r old new
  pub holds : Holds setup r before after

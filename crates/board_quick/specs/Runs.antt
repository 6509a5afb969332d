-- What a command leaves that runs an image on a board with scripted peers: by the schedule, which is one function of the two.
use Rattle.std.specs.Prelude.{◌≡◌, ◌⊎◌, ℕ, List, [], ◌∷◌, Option, None, Some, IfSome}
use Rattle.chip_sheet.specs.Past.{Past}
use Rattle.chip_sheet.specs.Legal.{Legal}
use Rattle.chip_sheet.specs.Streams.{Starts}
use Rattle.chip_shared.specs.Tied.{Tied}
use Rattle.link_script.specs.Links.{played_of}
use Rattle.link_script.specs.Play.{shown}
use Rattle.link_script.specs.declared.script_links.ScriptLinks.{ScriptLinks}
use Rattle.wz_base.specs.Outside.{RisesOnly}
use Rattle.wz_base.specs.Whole.{Appends, AppendsFront}
use Rattle.avr_mcu.specs.State.{reset_state}
use Rattle.board_file.specs.Boards.{Setup}
use Rattle.link_trait.specs.Routes.{no_routes}
use Rattle.board_echo.specs.Assembly.{image_of}
use Rattle.board_echo.specs.Echo.{echo_words}
use Rattle.board_echo.specs.Generator.{echo_script}
use Rattle.board_sim.specs.Schedule as schedule
use Rattle.board_sim.specs.Ends.{fresh_board, outcome, report_text, sim_text, starts_of, traced, StopsAtByte, StopsAtReport, StopsAtTrace}
use Rattle.board_sim.specs.declared.end.RunEnd.{RunEnd}
use Rattle.board_sim.specs.declared.end.RunEnd.TheVariants as runs
use Rattle.board_sim.specs.FirmwareRuns.{EndsBy}
use Rattle.board_quick.specs.declared.end.EndKind.{EndKind}
use Rattle.board_quick.specs.declared.end.EndKind.TheVariants.{Break, Sleep, CycleLimit, Chip, Avr, TraceFull, PollFault, WriteFault, NoMemory}
use Rattle.board_quick.specs.declared.end.QuickEnd.{QuickEnd}

-- The end of a command that a run's end is: the one of the same name.
abbrev pub end_of_run : RunEnd → EndKind
end_of_run runs.Break = Break
end_of_run runs.Sleep = Sleep
end_of_run runs.CycleLimit = CycleLimit
end_of_run (runs.Chip s) = Chip s
end_of_run (runs.Avr s) = Avr s
end_of_run runs.TraceFull = TraceFull
end_of_run runs.PollFault = PollFault
end_of_run runs.WriteFault = WriteFault
end_of_run runs.NoMemory = NoMemory

-- The run is whole: the end, the history, the peers and the text are the schedule's.
pub record IsRun (o : schedule.Outcome) (text : List ℕ) (end : EndKind) (past : Past) (script : Option ScriptLinks) (old new : Option (List ℕ)) : Type 0 where
  pub end_is : end ≡ end_of_run o.end
  pub past_is : past ≡ o.past
  pub script_is : (kept : ScriptLinks) × ((script ≡ Some kept) × (played_of kept ≡ o.links))
  pub wrote : Appends old text new

-- What is given of a run that comes to this and prints this text, by its end: where a write failed, what is said of the run that was cut
-- there; where memory ran out, a prefix of the text was written; else the run is whole.
abbrev pub ShowsRun : Type 0 → schedule.Outcome → List ℕ → EndKind → Past → Option ScriptLinks → Option (List ℕ) → Option (List ℕ) → Type 0
ShowsRun cut o text WriteFault past script old new = cut
ShowsRun cut o text NoMemory past script old new = AppendsFront old text new
ShowsRun cut o text end past script old new = IsRun o text end past script old new

-- A `sim` whose write failed stands behind the step whose serial byte could not be written, or it is whole and its report could not be
-- written whole.
abbrev pub IsCutSim : List ℕ → Setup → Past → Option ScriptLinks → Option (List ℕ) → Option (List ℕ) → Type 0
IsCutSim image setup past script old new =
    StopsAtByte setup.cycles image (fresh_board setup) past script old new
    ⊎ StopsAtReport (outcome image setup) (report_text setup (outcome image setup)) past script old new

-- What always holds of what a run leaves: the chip allows its history, and the peers agree with it; there are none only where memory ran
-- out; and a write fault stands exactly where the count of faults rose.
pub record KeepsRun (setup : Setup) (r : QuickEnd) (before after : ℕ) : Type 0 where
  pub legal : Legal (starts_of setup) r.history.past
  pub tied : IfSome r.script (λ links. Tied (starts_of setup) r.history.past (shown (played_of links)))
  pub made : r.script ≡ None → r.end ≡ NoMemory
  pub causes : RisesOnly (r.end ≡ WriteFault) before after

-- What the schedule's end says: on the answers of its history the firmware asks exactly the events of the history, prints what the
-- schedule prints, and ends so.
abbrev pub FirmwareEnds : List ℕ → Setup → Type 0
FirmwareEnds image setup = EndsBy (starts_of setup) setup.events setup.cycles (reset_state image) (outcome image setup) (outcome image setup).end

-- What `sim` leaves of an image and a board, over a sink that had this text and this count of faults before and after: the schedule's
-- history and peers, and as its text what the firmware prints and the report.
pub record RanSim (image : List ℕ) (setup : Setup) (r : QuickEnd) (old new : Option (List ℕ)) (before after : ℕ) : Type 0 where
  pub shows : ShowsRun (IsCutSim image setup r.history.past r.script old new) (outcome image setup) (sim_text setup (outcome image setup)) r.end r.history.past r.script old new
  pub keeps : KeepsRun setup r before after
  pub firmware : FirmwareEnds image setup

-- What `trace` leaves of them: the same history and peers, and as its text the trace. Where a write failed, the run is whole.
pub record RanTrace (image : List ℕ) (setup : Setup) (r : QuickEnd) (old new : Option (List ℕ)) (before after : ℕ) : Type 0 where
  pub shows : ShowsRun (StopsAtTrace (outcome image setup) (traced setup (outcome image setup)) r.history.past r.script old new) (outcome image setup) (traced setup (outcome image setup)) r.end r.history.past r.script old new
  pub keeps : KeepsRun setup r before after
  pub firmware : FirmwareEnds image setup

-- The board of a generated run: that of an empty board file, and the peer of this number.
abbrev pub echo_setup : ℕ → Setup
echo_setup n = record {
  tx_start = 0;
  rx_start = 0;
  events = 33554432;
  cycles = 1099511627776;
  routes = no_routes;
  peers = echo_script n ∷ [];
}

-- What `gen` leaves of a number: what `sim` leaves of the echo server and that board.
abbrev pub RanGen : ℕ → QuickEnd → Option (List ℕ) → Option (List ℕ) → ℕ → ℕ → Type 0
RanGen n r old new before after = RanSim (image_of echo_words) (echo_setup n) r old new before after

-- The chip allows the history, and scripted peers agree with it: they were given the bytes that it says were taken, and gave those that it
-- says came.
pub record IsTied (past : Past) (links : ScriptLinks) : Type 0 where
  pub starts : Starts
  pub legal : Legal starts past
  pub tied : Tied starts past (shown (played_of links))

-- The ends that a run alone has.
abbrev pub IsOfRun : EndKind → Type 0
IsOfRun Break = Unit {0}
IsOfRun Sleep = Unit {0}
IsOfRun CycleLimit = Unit {0}
IsOfRun (Avr s) = Unit {0}
IsOfRun TraceFull = Unit {0}
IsOfRun end = ⊥

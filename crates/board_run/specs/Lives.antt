-- What a live run leaves: one history, on whose answers the firmware ran, its text, and why it ended.
use Rattle.std.specs.Prelude.{◌≡◌, ◌⊎◌, ℕ, ◌<◌, ◌≤◌, true, false, List, [], ◌∷◌, ◌++◌, Option, Some, None}
use Rattle.board_bus.specs.declared.event.BusEvent.{BusEvent}
use Rattle.chip_sheet.specs.Legal.{Legal}
use Rattle.chip_sheet.specs.Life.{lives}
use Rattle.chip_sheet.specs.Past.{Past}
use Rattle.chip_sheet.specs.Stops.{stop}
use Rattle.chip_sheet.specs.Streams.{Starts}
use Rattle.chip_sheet.specs.Windows.{flight}
use Rattle.chip_sheet.specs.declared.stop.ChipStop.{ChipStop}
use Rattle.chip_shared.specs.Tied.{Tied}
use Rattle.chip_lock.specs.Causes.{rested}
use Rattle.link_trait.specs.Shown.{Shown}
use Rattle.wz_base.specs.Outside.{Rose, RisesOnly}
use Rattle.wz_base.specs.Whole.{Appends, AppendsFront}
use Rattle.avr_mcu.specs.Run.{Outcome, run}
use Rattle.avr_mcu.specs.State.{McuState, reset_state}
use Rattle.avr_mcu.specs.declared.run.RunEnd as firmware
use Rattle.avr_mcu.specs.declared.run.RunEnd.TheVariants as firmwares
use Rattle.avr_run.specs.Told.{Told, SoFar, Ended}
use Rattle.board_file.specs.Boards.{Setup}
use Rattle.board_sim.specs.Boards.{is_full_at}
use Rattle.board_sim.specs.Ends.{starts_of}
use Rattle.board_sim.specs.Exchanges.{asked_of, answers_of}
use Rattle.board_sim.specs.Report.{last_behind, report_of}
use Rattle.board_run.specs.Printing.{PrintsLast}
use Rattle.board_run.specs.declared.live.LiveEnd.{LiveEnd}
use Rattle.board_sim.specs.declared.end.RunEnd.{RunEnd}
use Rattle.board_sim.specs.declared.end.RunEnd.TheVariants as ends

-- What contracts see of what a live run leaves: its history, what its links and its poller show, its cycles, and its end.
pub record Left : Type 0 where
  pub past : Past
  pub links : Shown
  -- how many waits of the poller failed
  pub faults : ℕ
  pub cycles : ℕ
  pub end : RunEnd

-- The firmware's run: that of the instruction table, from reset, on exactly the answers of the history.
abbrev pub firmware_run : List ℕ → Setup → Past → Outcome
firmware_run image setup past = run setup.cycles (reset_state image) (answers_of past)

-- The report of that run, with this history and this end.
abbrev pub live_report : List ℕ → Setup → Past → RunEnd → List ℕ
live_report image setup past end =
    let ran = firmware_run image setup past in
    report_of (starts_of setup) past (last_behind None ran.serial) ran.cycles ran.trail end

-- The event has this stop after some past, at which a history that is meant to hold so much was not full. Since then nothing
-- happened.
pub record StopsThere (starts : Starts) (events : ℕ) (past : Past) (c : BusEvent) (s : ChipStop) : Type 0 where
  pub before : Past
  pub rests : ℕ
  pub since : past ≡ rested rests before
  pub room : is_full_at events before ≡ false
  pub stops : stop starts before c ≡ Some s

-- Why a run ended so, by the firmware's end: an end of its own; or it wants one more event, which got no answer since the chip
-- stops at it while the history is not full, the history is full, or a wait of the poller failed.
abbrev pub ComesBy : RunEnd → Setup → Past → firmware.RunEnd → ℕ → ℕ → Type 0
ComesBy ends.Break setup past end before now = end ≡ firmwares.Break
ComesBy ends.Sleep setup past end before now = end ≡ firmwares.Sleep
ComesBy ends.CycleLimit setup past end before now = end ≡ firmwares.CycleLimit
ComesBy (ends.Avr why) setup past end before now = end ≡ firmwares.Stop why
ComesBy (ends.Chip why) setup past end before now = (c : BusEvent) × ((end ≡ firmwares.Wants c) × StopsThere (starts_of setup) setup.events past c why)
ComesBy ends.TraceFull setup past end before now = (c : BusEvent) × ((end ≡ firmwares.Wants c) × (is_full_at setup.events past ≡ true))
ComesBy ends.PollFault setup past end before now = (c : BusEvent) × ((end ≡ firmwares.Wants c) × Rose before now)
ComesBy ends.WriteFault setup past end before now = ⊥
ComesBy ends.NoMemory setup past end before now = ⊥

-- On the answers of the history, the firmware asks exactly the history's events of the bus, in their order.
abbrev pub AsksAll : List ℕ → Setup → Past → Type 0
AsksAll image setup past = (firmware_run image setup past).asked ≡ asked_of past

-- The run is whole, and so is its text: what the firmware printed, and the report of this history, this run and this end.
pub record IsWhole (image : List ℕ) (setup : Setup) (before : ℕ) (left : Left) (old new : Option (List ℕ)) : Type 0 where
  pub asks : AsksAll image setup left.past
  pub comes : ComesBy left.end setup left.past (firmware_run image setup left.past).end before left.faults
  pub cycles : left.cycles ≡ (firmware_run image setup left.past).cycles
  pub wrote : Appends old ((firmware_run image setup left.past).serial ++ live_report image setup left.past left.end) new

-- The run is whole, and its report could not be written whole: all that the firmware printed was, and a prefix of the report of the
-- end that it had come to.
pub record StopsAtReport (image : List ℕ) (setup : Setup) (before : ℕ) (left : Left) (old new : Option (List ℕ)) : Type 0 where
  pub asks : AsksAll image setup left.past
  pub end : RunEnd
  pub comes : ComesBy end setup left.past (firmware_run image setup left.past).end before left.faults
  pub cycles : left.cycles ≡ (firmware_run image setup left.past).cycles
  pub text : Option (List ℕ)
  pub printed_all : Appends old (firmware_run image setup left.past).serial text
  pub wrote : AppendsFront text (live_report image setup left.past end) new

-- A run so far that goes on, or that ended, with these bytes.
abbrev pub ComesTo : ℕ → McuState → List ℕ → McuState → Told → Type 0
ComesTo cycles start serial now told = SoFar cycles start serial now told ⊎ ((end : firmware.RunEnd) × Ended cycles start serial now told end)

-- A serial byte could not be written: the firmware stands behind the step that printed it (`last`), what was written is all that
-- was printed before it, and the history's events of the bus are those that the steps up to that one asked.
pub record StopsAtByte (image : List ℕ) (setup : Setup) (left : Left) (old new : Option (List ℕ)) : Type 0 where
  pub serial : List ℕ
  pub byte : ℕ
  pub state : McuState
  pub wanted : Option BusEvent
  pub comes : ComesTo setup.cycles (reset_state image) (serial ++ byte ∷ []) state (record { asked = asked_of left.past; answers = answers_of left.past; wanted = wanted })
  pub last : PrintsLast setup.cycles (reset_state image) serial byte state (record { asked = asked_of left.past; answers = answers_of left.past; wanted = wanted })
  pub cycles : left.cycles ≡ state.devices.cycles
  pub wrote : Appends old serial new

-- Memory ran out under way: on the answers of the history the firmware asks its events, and a prefix of the text was written, whatever end
-- the report would name.
pub record StopsShort (image : List ℕ) (setup : Setup) (left : Left) (old new : Option (List ℕ)) : Type 0 where
  pub asks : AsksAll image setup left.past
  pub end : RunEnd
  pub wrote : AppendsFront old ((firmware_run image setup left.past).serial ++ live_report image setup left.past end) new

-- There was no memory to begin with.
pub record NothingRan (left : Left) (old new : Option (List ℕ)) : Type 0 where
  pub past : left.past ≡ []
  pub wrote : Appends old [] new

abbrev pub LivesBy : RunEnd → List ℕ → Setup → ℕ → Left → Option (List ℕ) → Option (List ℕ) → Type 0
LivesBy ends.WriteFault image setup before left old new = StopsAtByte image setup left old new ⊎ StopsAtReport image setup before left old new
LivesBy ends.NoMemory image setup before left old new = NothingRan left old new ⊎ StopsShort image setup left old new
LivesBy end image setup before left old new = IsWhole image setup before left old new

-- Ends of the firmware behind which closing offers what is in flight.
abbrev pub IsClosing : RunEnd → Type 0
IsClosing ends.Break = Unit {0}
IsClosing ends.Sleep = Unit {0}
IsClosing ends.CycleLimit = Unit {0}
IsClosing end = ⊥

-- Bytes are in flight on a socket only where its last write stalled in its present life.
abbrev pub OnlyStalled : Setup → Left → Type 0
OnlyStalled setup left = (n : ℕ) → n < 8 → 0 < flight (starts_of setup) left.past n → left.links.stalled n ≡ lives left.past n

-- What `live` leaves of an image and a board, over a poller of which so many waits had failed, and a sink that had this text and this count
-- of faults before and has those now.
--
-- The history is legal: every answer clocked out is the datasheet's at its point, and every link event is one that may come there. Each
-- connection that the links tell was given exactly the bytes passed to SEND up to the taken count, and supplied exactly the bytes received.
-- The firmware's run is that of the instruction table on exactly the answers of the history, and the text is that of history, run and end,
-- or a prefix of it (`by`). Where the firmware ended of itself and the history is not full, bytes are in flight only where a write stalled.
pub record Lives (image : List ℕ) (setup : Setup) (before : ℕ) (left : Left) (old new : Option (List ℕ)) (faults faults_now : ℕ) : Type 0 where
  pub legal : Legal (starts_of setup) left.past
  pub tied : Tied (starts_of setup) left.past left.links
  pub by : LivesBy left.end image setup before left old new
  pub stalled : IsClosing left.end → is_full_at setup.events left.past ≡ false → OnlyStalled setup left
  pub causes : RisesOnly (left.end ≡ ends.WriteFault) faults faults_now
  pub later : before ≤ left.faults

-- What contracts see of it, by what links and a poller show.
abbrev pub left_of : {L P : Type 0} → (L → Shown) → (P → ℕ) → LiveEnd L P → Left
left_of shown faults r = record { past = r.history.past; links = shown r.links; faults = faults r.poller; cycles = r.cycles; end = r.end }

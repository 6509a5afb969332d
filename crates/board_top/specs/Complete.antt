-- How a command ends where nothing of the outside fails: by its words, by what the files hold, and in a live run by the firmware's run.
use Rattle.std.specs.Prelude.{◌≡◌, ◌⊎◌, ℕ, nat_le, true, List, length, Option, None, Some, Result, Ok, Err, if◌then◌else◌}
use Rattle.board_bus.specs.declared.event.BusEvent.{BusEvent}
use Rattle.chip_sheet.specs.Past.{Past}
use Rattle.chip_sheet.specs.declared.stop.ChipStop.{ChipStop}
use Rattle.avr_mcu.specs.declared.run.RunEnd as firmware
use Rattle.avr_mcu.specs.declared.run.RunEnd.TheVariants as firmwares
use Rattle.wz_base.specs.declared.reading.ReadError.TheVariants.{NoFile, TooLong}
use Rattle.board_echo.specs.Assembly.{image_of}
use Rattle.board_echo.specs.Echo.{echo_words}
use Rattle.board_file.specs.Boards.{Setup}
use Rattle.board_sim.specs.Boards.{is_full_at}
use Rattle.board_sim.specs.Ends.{outcome, starts_of}
use Rattle.board_run.specs.Lives.{firmware_run, StopsThere}
use Rattle.board_quick.specs.declared.end.Refusal.TheVariants as refusals
use Rattle.board_quick.specs.declared.end.EndKind.{EndKind}
use Rattle.board_quick.specs.declared.end.EndKind.TheVariants.{Done, Break, Sleep, CycleLimit, Chip, Avr, TraceFull, NoMemory, Refused}
use Rattle.board_quick.specs.declared.loading.LoadError.{LoadError}
use Rattle.board_quick.specs.declared.loading.LoadError.TheVariants as loads
use Rattle.board_quick.specs.declared.reading.TheConstants.{TEXT_LIMIT}
use Rattle.board_quick.specs.declared.words.BoardCommand.{BoardCommand}
use Rattle.board_quick.specs.declared.words.BoardCommand.TheVariants as boards
use Rattle.board_quick.specs.declared.words.TextCommand.{TextCommand}
use Rattle.board_quick.specs.Loads.{both_of, unread}
use Rattle.board_quick.specs.Outcome.{text_outcome}
use Rattle.board_quick.specs.Reads.{Reading}
use Rattle.board_quick.specs.Runs.{echo_setup, end_of_run}
use Rattle.board_quick.specs.Words.{Asked, Run, OnText, OnBoard, Gen, Help}

-- What is read of a name that holds this.
abbrev pub read_of : Option (List ℕ) → Reading
read_of None = Err NoFile
read_of (Some text) = if nat_le (length text) TEXT_LIMIT then Ok text else Err TooLong

-- The end of a command whose operands were not loaded.
abbrev pub unloaded_end : LoadError → EndKind
unloaded_end (loads.Refused refusal) = Refused refusal
unloaded_end loads.NoMemory = NoMemory

-- The end of a command on one file, by what was read of it.
abbrev pub text_end : TextCommand → Reading → EndKind
text_end what (Ok text) = (text_outcome what text).end
text_end what (Err e) = unloaded_end (unread 1 e)

-- The end of a command on an image and a board without a fault: that of the schedule's run, or none was to be made.
abbrev pub both_end : BoardCommand → List ℕ → Setup → EndKind
both_end boards.Check image setup = Done
both_end what image setup = end_of_run (outcome image setup).end

-- The end of a command on an image and a board, by what its operands come to.
abbrev pub board_end : BoardCommand → Result (List ℕ × Setup) LoadError → EndKind
board_end what (Ok both) = both_end what both.0 both.1
board_end what (Err error) = unloaded_end error

-- The chip stops at an event of the bus, behind all that happened, where the history is not full.
abbrev pub StopsAt : Setup → Past → BusEvent → EndKind → Type 0
StopsAt setup past c end = (why : ChipStop) × ((end ≡ Chip why) × StopsThere (starts_of setup) setup.events past c why)

-- The history is full.
abbrev pub IsFullAt : Setup → Past → EndKind → Type 0
IsFullAt setup past end = (end ≡ TraceFull) × (is_full_at setup.events past ≡ true)

-- How a live run ends with this history, by the end of the firmware's run: as that does; or, where it wants one more event, by the chip's
-- stop at that event or by a full history.
abbrev pub LiveEnds : firmware.RunEnd → Setup → Past → EndKind → Type 0
LiveEnds firmwares.Break setup past end = end ≡ Break
LiveEnds firmwares.Sleep setup past end = end ≡ Sleep
LiveEnds firmwares.CycleLimit setup past end = end ≡ CycleLimit
LiveEnds (firmwares.Stop why) setup past end = end ≡ Avr why
LiveEnds (firmwares.Wants c) setup past end = StopsAt setup past c end ⊎ IsFullAt setup past end

-- How a `run` ends with this history, by what its operands come to.
abbrev pub RunEnds : Result (List ℕ × Setup) LoadError → Past → EndKind → Type 0
RunEnds (Ok both) past end = LiveEnds (firmware_run both.0 both.1 past).end both.1 past end
RunEnds (Err error) past end = end ≡ unloaded_end error

-- How the words end with this history, over files that hold this. But for a `run`, that is one end.
abbrev pub Completes : (List ℕ → Option (List ℕ)) → Option Asked → Past → EndKind → Type 0
Completes held None past end = end ≡ Refused refusals.Usage
Completes held (Some Help) past end = end ≡ Done
Completes held (Some (Gen number)) past end = end ≡ end_of_run (outcome (image_of echo_words) (echo_setup number)).end
Completes held (Some (OnText what name)) past end = end ≡ text_end what (read_of (held name))
Completes held (Some (OnBoard what image board)) past end = end ≡ board_end what (both_of (read_of (held image)) (read_of (held board)))
Completes held (Some (Run image board)) past end = RunEnds (both_of (read_of (held image)) (read_of (held board))) past end

-- A run under way: what its steps make of the part, the board, and what is printed.
use Rattle.std.specs.Prelude.{◌≡◌, ◌⊎◌, ℕ, ◌+◌, ◌<◌, List, [], Option, Some, None}
use Rattle.wz_base.specs.Whole.{Appends}
use Rattle.avr_mcu.specs.Run.{byte_of}
use Rattle.avr_mcu.specs.State.{McuState, printed, taken}
use Rattle.avr_mcu.specs.declared.run.RunEnd as firmware
use Rattle.board_sim.specs.Boards.{Board}
use Rattle.board_sim.specs.Sweeps.{rested, whole, cut_off}
use Rattle.board_sim.specs.Schedule.{Standing, GoesTo, turn}
use Rattle.board_sim.specs.Report.{last_behind}
use Rattle.board_sim.specs.declared.play.Cut.{Cut}
use Rattle.board_sim.specs.declared.play.Cut.TheVariants as cuts

-- What the sink was given, where it tells that, and the last byte that the run printed.
pub record Printed : Type 0 where
  pub written : Option (List ℕ)
  pub last : Option ℕ

abbrev pub printing : Option (List ℕ) → Option ℕ → Printed
printing written last = record { written = written; last = last }

-- These bytes were printed, and no others.
pub record Prints (old : Printed) (bytes : List ℕ) (new : Printed) : Type 0 where
  pub wrote : Appends old.written bytes new.written
  pub last : new.last ≡ last_behind old.last bytes

-- The board with so many more instructions counted.
abbrev pub later : ℕ → Board → Board
later instructions b = record b { steps = b.steps + instructions }

-- What comes behind the events of a step, or of steps that asked nothing: the instructions are counted, the byte is printed, and then comes
-- the end of the run or the sweep.
abbrev pub Settles : Board → ℕ → Option ℕ → Option firmware.RunEnd → Option Cut → Board → Printed → Printed → Type 0
Settles b n byte end None left old new = (end ≡ None) × ((rested (later n b) ≡ whole left) × Prints old (byte_of byte) new)
Settles b n byte end (Some (cuts.Step e)) left old new = (end ≡ Some e) × ((left ≡ later n b) × Prints old (byte_of byte) new)
Settles b n byte end (Some cuts.TraceFull) left old new = (end ≡ None) × ((rested (later n b) ≡ cut_off left) × Prints old (byte_of byte) new)
Settles b n byte end (Some cuts.WriteFault) left old new = (v : ℕ) × ((byte ≡ Some v) × ((left ≡ later n b) × Prints old [] new))
Settles b n byte end (Some cuts.NoMemory) left old new = Prints old [] new ⊎ Prints old (byte_of byte) new

-- How the step of the schedule from here is cut: it ends the run, the history is full at the sweep behind it, or its byte could not be
-- written. Where memory ran out, its byte was written or not.
abbrev pub CutAt : Cut → ℕ → McuState → Board → McuState → Board → Printed → Printed → Type 0
CutAt (cuts.Step e) cycles s b now left old new =
    let t = turn cycles s b in
    (t.end ≡ Some e) × ((left ≡ t.board) × ((now ≡ taken t.state) × Prints old (byte_of (printed t.state)) new))
CutAt cuts.TraceFull cycles s b now left old new =
    let t = turn cycles s b in
    (t.end ≡ None) × ((rested t.board ≡ cut_off left) × ((now ≡ taken t.state) × Prints old (byte_of (printed t.state)) new))
CutAt cuts.WriteFault cycles s b now left old new =
    let t = turn cycles s b in
    (byte : ℕ) × ((printed t.state ≡ Some byte) × ((left ≡ t.board) × Prints old [] new))
CutAt cuts.NoMemory cycles s b now left old new = Prints old [] new ⊎ Prints old (byte_of (printed (turn cycles s b).state)) new

abbrev pub standing : McuState → Board → List ℕ → Standing
standing s b serial = record { state = s; board = b; serial = serial }

-- Some steps of the schedule lead from here to there, printing these bytes; none of them ends the run.
pub record Walked (cycles : ℕ) (s : McuState) (b : Board) (now : McuState) (left : Board) (old new : Printed) : Type 0 where
  pub steps : ℕ
  pub serial : List ℕ
  pub goes : GoesTo steps cycles (standing s b []) (standing now left serial)
  pub prints : Prints old serial new

-- Some steps lead somewhere, and the one from there is cut.
pub record WalkedTo (cut : Cut) (cycles : ℕ) (s : McuState) (b : Board) (now : McuState) (left : Board) (old new : Printed) : Type 0 where
  pub steps : ℕ
  pub at : Standing
  pub goes : GoesTo steps cycles (standing s b []) at
  pub mid : Printed
  pub prints : Prints old at.serial mid
  pub cuts : CutAt cut cycles at.state at.board now left mid new

-- By whether the run goes on.
abbrev pub Goes : Option Cut → ℕ → McuState → Board → McuState → Board → Printed → Printed → Type 0
Goes None cycles s b now left old new = Walked cycles s b now left old new
Goes (Some cut) cycles s b now left old new = WalkedTo cut cycles s b now left old new

-- What the next step needs: no printed byte waits, the cycles are below the limit, and no sweep is due.
pub record IsReady (cycles : ℕ) (s : McuState) (b : Board) : Type 0 where
  pub still : printed s ≡ None
  pub below : s.devices.cycles < cycles
  pub bytes : b.bytes < 8
  pub steps : b.steps < 1024
  pub none_wanted : b.wanted ≡ None

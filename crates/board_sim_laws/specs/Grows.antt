-- A run only adds to its history.
use Rattle.std.specs.Prelude.{◌≡◌, ℕ, ◌++◌}
use Rattle.chip_sheet.specs.Past.{Past}
use Rattle.avr_mcu.specs.State.{McuState}
use Rattle.board_sim.specs.Boards.{Board}
use Rattle.board_sim.specs.Sweeps.{rested}
use Rattle.board_sim.specs.Closes.{closed}
use Rattle.board_sim.specs.Schedule.{turn, turns}

-- One past is another with more entries, which came later.
abbrev pub Adds : Past → Past → Type 0
Adds old new = (more : Past) × (new ≡ more ++ old)

abbrev pub TurnAdds : Type 0
TurnAdds = (cycles : ℕ) (s : McuState) (b : Board) → Adds b.past (turn cycles s b).board.past

abbrev pub SweepAdds : Type 0
SweepAdds = (b : Board) → Adds b.past (rested b).board.past

abbrev pub ClosingAdds : Type 0
ClosingAdds = (b : Board) → Adds b.past (closed b).past

abbrev pub RunAdds : Type 0
RunAdds = (most cycles : ℕ) (s : McuState) (b : Board) → Adds b.past (turns most cycles s b).past

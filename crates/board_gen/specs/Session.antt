-- One step of a session.
use Rattle.std.specs.Prelude.{◌≡◌, true, false, ◌∷◌, Option, None, Some}
use Rattle.board_bus.specs.declared.event.BusAnswer.{BusAnswer}
use Rattle.chip_sheet.specs.declared.event.Entry.TheVariants.{Link}
use Rattle.chip_sheet.specs.Past.{Past}
use Rattle.chip_sheet.specs.Streams.{Starts}
use Rattle.chip_sheet.specs.Answers.{answer}
use Rattle.chip_sheet.specs.Stops.{stop}
use Rattle.chip_sheet.specs.LinkCalls.{fits}
use Rattle.chip_sheet.specs.Replay.{Step, Asks, Happens, answered}
use Rattle.board_gen.specs.declared.session.Halt.{Halt}
use Rattle.board_gen.specs.declared.session.Halt.TheVariants.{Stopped, NotDue, NoMemory}

-- The step is taken: an event of the bus that has no stop, with the chip's answer, or a link event that fits.
abbrev pub Takes : Starts → Past → Step → Option BusAnswer → Past → Type 0
Takes starts old (Asks e) (Some a) new =
    (stop starts old e ≡ None) × (a ≡ answer starts old e) × (new ≡ answered starts old e)
Takes starts old (Asks e) None new = ⊥
Takes starts old (Happens n what) (Some a) new = ⊥
Takes starts old (Happens n what) None new = (fits starts old n what ≡ true) × (new ≡ Link n what ∷ old)

-- Why a step is not taken.
abbrev pub Halts : Starts → Past → Step → Halt → Type 0
Halts starts old (Asks e) (Stopped s) = stop starts old e ≡ Some s
Halts starts old (Asks e) NotDue = ⊥
Halts starts old (Asks e) NoMemory = Unit {0}
Halts starts old (Happens n what) (Stopped s) = ⊥
Halts starts old (Happens n what) NotDue = fits starts old n what ≡ false
Halts starts old (Happens n what) NoMemory = Unit {0}

-- A chip that some history led to, after one event more.
use Rattle.std.proofs.Common.{◌+◌, ℕ, ◌∷◌, arith}
use Rattle.std.specs.Prelude.{Result, Ok, Err, IfOk, IfErr}
use Rattle.board_bus.specs.declared.event.BusEvent.{BusEvent}
use Rattle.board_bus.specs.declared.event.BusAnswer.{BusAnswer}
use Rattle.chip_sheet.specs.declared.stop.ChipStop.{ChipStop}
use Rattle.chip_sheet.specs.declared.event.Entry.TheVariants.{Bus}
use Rattle.chip_sheet.specs.Past.{Past}
use Rattle.chip_sheet.specs.Streams.{Starts}
use Rattle.chip_core.specs.declared.chip.Chip.{Chip}
use Rattle.chip_core.specs.Chip.{Stands, Answered, Stopped}
use Rattle.chip_core.specs.Reached.{Reached}

pub after_bus : (old new : Chip) (e : BusEvent) (r : Result BusAnswer ChipStop) (k : ℕ)
    → IfOk r (λ a. (starts : Starts) (past : Past) → Stands starts old past → Answered starts old past e a new)
    → IfErr r (λ s. (starts : Starts) (past : Past) → Stands starts old past → Stopped starts old past e s new)
    → Reached old k → Reached new (k + 1)
after_bus old new e (Ok a) k went stopped h = record {
  starts = h.starts;
  past = Bus e a ∷ h.past;
  stands = (went h.starts h.past h.stands).stands;
  short = let short = h.short in omega (arith, short);
}
after_bus old new e (Err s) k went stopped h = record {
  starts = h.starts;
  past = h.past;
  stands = (stopped h.starts h.past h.stands).stands;
  short = let short = h.short in omega (arith, short);
}

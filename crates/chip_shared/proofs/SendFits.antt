-- A SEND that fits is answered 00, and adds exactly its range.
use Rattle.std.proofs.Common.{◌≡◌, ◌<◌, ℕ, Result, Ok, Err, None, Some, inl, inr, sym, ap, ◌∙◌, arith}
use Rattle.std.proofs.lemmas.Bool.{false≢true}
use Rattle.board_bus.specs.declared.event.BusEvent.{BusEvent}
use Rattle.board_bus.specs.declared.event.BusEvent.TheVariants.{Select, Byte, Look}
use Rattle.board_bus.specs.declared.event.BusAnswer.{BusAnswer}
use Rattle.board_bus.specs.declared.event.BusAnswer.TheVariants.{Out}
use Rattle.chip_sheet.specs.declared.phase.Access.{Access}
use Rattle.chip_sheet.specs.declared.phase.Access.TheVariants.{Write}
use Rattle.chip_sheet.specs.declared.stop.ChipStop.{ChipStop}
use Rattle.chip_sheet.specs.Past.{Past}
use Rattle.chip_sheet.specs.Frames.{access}
use Rattle.chip_sheet.specs.Answers.{answer, byte_out}
use Rattle.chip_sheet.specs.Blocks.{registers_of}
use Rattle.chip_sheet.specs.Streams.{Starts}
use Rattle.chip_sheet.proofs.SendLaws.{send_goes, send_adds}
use Rattle.chip_shared.specs.State.{State}
use Rattle.chip_shared.specs.Asking.{Asks, IsOpen, Fits, Goes}
use Rattle.chip_shared.specs.declared.shared.StepEnd.{StepEnd}
use Rattle.chip_shared.specs.declared.shared.StepEnd.TheVariants.{Stopped, TraceFull, NoMemory}

out_of : (starts : Starts) (past : Past) (e : BusEvent) (bits addr v : ℕ) → access past e ≡ Write bits addr v → answer starts past e ≡ Out 0
out_of starts past (Byte b) bits addr v is = ap (λ (made : Access). Out (byte_out starts past made)) is
out_of starts past (Select low) bits addr v is = cc
out_of starts past Look bits addr v is = cc

no_other : (a b : ChipStop) → None ≡ Some a → ⊥
no_other a b h = cc

pub fits_goes : {L : Type 0} (old new : State L) (e : BusEvent) (n : ℕ) (result : Result BusAnswer StepEnd) → Asks old e result new → IsOpen old → 0 < old.log.spare_events → Fits old e n → Goes old n result new
fits_goes old new e n (Ok a) asks open_ room fits = record {
  is = ap Ok (asks.is ∙ out_of old.starts old.log.past e (registers_of n) 0x01 0x20 fits.is);
  adds = rw (asks.starts, asks.past) (send_adds old.starts old.log.past e a n fits.is fits.takes);
}
fits_goes old new e n (Err (Stopped s)) asks open_ room fits =
    elim asks.1 [
      | inl before ↦ absurd (no_other s s (sym open_.unstopped ∙ before.0))
      | inr now ↦ absurd (no_other s s (sym (send_goes old.starts old.log.past e n fits.is fits.takes fits.idle fits.room) ∙ now.1.0))
    ]
fits_goes old new e n (Err TraceFull) asks open_ room fits =
    elim asks.1 [
      | inl before ↦ absurd (false≢true (sym open_.room ∙ before.0.1))
      | inr now ↦ absurd now
    ]
fits_goes old new e n (Err NoMemory) asks open_ room fits =
    elim asks.1 [
      | inl before ↦ let none = before.0.1 in absurd (omega (arith, none, room))
      | inr now ↦ absurd now
    ]

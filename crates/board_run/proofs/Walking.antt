-- Steps of the firmware, one after another, and the run that they make.
use Rattle.std.proofs.Common.{◌≡◌, ◌⊎◌, inl, inr, ℕ, List, [], ◌∷◌, ◌++◌, Option, None, Some, refl, sym, subst, append_assoc, append-nil}
use Rattle.avr_mcu.specs.Run.{byte_of}
use Rattle.avr_mcu.specs.State.{McuState}
use Rattle.avr_mcu.specs.declared.run.RunEnd as firmware
use Rattle.avr_run.specs.Told.{Told, SoFar, Ended}
use Rattle.board_sim.specs.Playing.{Printed, Prints}
use Rattle.board_sim.proofs.Printing.{prints_none, prints_more}
use Rattle.board_run.specs.Wires.{WireView, told_of}
use Rattle.board_run.specs.Going.{EndsAtByte, Further, Goes, SettlesTo, ToByte, ToEnd, Walked}
use Rattle.board_run.specs.Printing.{LastPrints, PrintsLast}
use Rattle.board_run.specs.declared.firmware.Cut.{Cut}
use Rattle.board_run.specs.declared.firmware.Cut.TheVariants as cuts

-- Steps that did not end the run, and more behind them.
further_on : (cycles : ℕ) (xs ys : List ℕ) (s m now : McuState) (told between told' : Told) → Further cycles xs s told m between → Further cycles ys m between now told' → Further cycles (xs ++ ys) s told now told'
further_on cycles xs ys s m now told between told' first second = λ start serial so.
    subst (λ (bytes : List ℕ). SoFar cycles start bytes now told') (append_assoc serial xs ys) (second start (serial ++ xs) (first start serial so))

end_on : (cycles : ℕ) (xs ys : List ℕ) (end : firmware.RunEnd) (s m now : McuState) (told between told' : Told) → Further cycles xs s told m between → ToEnd cycles ys end m between now told'
    → ToEnd cycles (xs ++ ys) end s told now told'
end_on cycles xs ys end s m now told between told' first second = λ start serial so.
    subst (λ (bytes : List ℕ). Ended cycles start bytes now told' end) (append_assoc serial xs ys) (second start (serial ++ xs) (first start serial so))

byte_on : (cycles : ℕ) (xs ys : List ℕ) (s m now : McuState) (told between told' : Told) → Further cycles xs s told m between → ToByte cycles ys m between now told' → ToByte cycles (xs ++ ys) s told now told'
byte_on cycles xs ys s m now told between told' first (inl second) = inl (further_on cycles xs ys s m now told between told' first second)
byte_on cycles xs ys s m now told between told' first (inr second) = inr (second.0, end_on cycles xs ys second.0 s m now told between told' first second.1)

last_on : (cycles : ℕ) (xs ys : List ℕ) (byte : ℕ) (s m now : McuState) (told between told' : Told) → Further cycles xs s told m between → EndsAtByte cycles ys byte m between now told' → EndsAtByte cycles (xs ++ ys) byte s told now told'
last_on cycles xs ys byte s m now told between told' first second = λ start serial so.
    subst (λ (bytes : List ℕ). PrintsLast cycles start bytes byte now told') (append_assoc serial xs ys) (second start (serial ++ xs) (first start serial so))

pub walked_goes : (cut : Option Cut) (cycles : ℕ) (s m now : McuState) (told between told' : Told) (old mid new : Printed) → Walked cycles s told m between old mid → Goes cut cycles m between now told' mid new
    → Goes cut cycles s told now told' old new
walked_goes None cycles s m now told between told' old mid new way goes = record {
  bytes = way.bytes ++ goes.bytes;
  prints = prints_more old mid new way.bytes goes.bytes way.prints goes.prints;
  further = further_on cycles way.bytes goes.bytes s m now told between told' way.further goes.further;
}
walked_goes (Some (cuts.Step end)) cycles s m now told between told' old mid new way goes = record {
  bytes = way.bytes ++ goes.bytes;
  prints = prints_more old mid new way.bytes goes.bytes way.prints goes.prints;
  to_end = end_on cycles way.bytes goes.bytes end s m now told between told' way.further goes.to_end;
}
walked_goes (Some cuts.WriteFault) cycles s m now told between told' old mid new way goes = record {
  bytes = way.bytes ++ goes.bytes;
  byte = goes.byte;
  prints = prints_more old mid new way.bytes goes.bytes way.prints goes.prints;
  to_byte = subst (λ (bytes : List ℕ). ToByte cycles bytes s told now told') (sym (append_assoc way.bytes goes.bytes (goes.byte ∷ [])))
      (byte_on cycles way.bytes (goes.bytes ++ goes.byte ∷ []) s m now told between told' way.further goes.to_byte);
  last = last_on cycles way.bytes goes.bytes goes.byte s m now told between told' way.further goes.last;
}

-- No step yet.
pub walked_none : (cycles : ℕ) (s : McuState) (told : Told) (p : Printed) → Walked cycles s told s told p p
walked_none cycles s told p = record {
  bytes = [];
  prints = prints_none p;
  further = λ start serial so. subst (λ (bytes : List ℕ). SoFar cycles start bytes s told) (sym (append-nil serial)) so;
}

-- Whether steps that printed this byte ended the run or not.
to_byte_by : (end : Option firmware.RunEnd) (cycles : ℕ) (bytes : List ℕ) (s now : McuState) (told told' : Told)
    → (end ≡ None → Further cycles bytes s told now told') → ((e : firmware.RunEnd) → end ≡ Some e → ToEnd cycles bytes e s told now told') → ToByte cycles bytes s told now told'
to_byte_by None cycles bytes s now told told' goes ends = inl (goes refl)
to_byte_by (Some e) cycles bytes s now told told' goes ends = inr (e, ends e refl)

-- Steps, and what comes behind them.
settled : (cut : Option Cut) (byte : Option ℕ) (end : Option firmware.RunEnd) (cycles : ℕ) (s now : McuState) (told told' : Told) (old new : Printed)
    → (end ≡ None → Further cycles (byte_of byte) s told now told') → ((e : firmware.RunEnd) → end ≡ Some e → ToEnd cycles (byte_of byte) e s told now told') → LastPrints cycles byte s told now told' → SettlesTo byte end cut old new
    → Goes cut cycles s told now told' old new
settled None byte end cycles s now told told' old new goes ends last it = record { bytes = byte_of byte; prints = it.1; further = goes it.0 }
settled (Some (cuts.Step e)) byte end cycles s now told told' old new goes ends last it = record { bytes = byte_of byte; prints = it.1; to_end = ends e it.0 }
settled (Some cuts.WriteFault) byte end cycles s now told told' old new goes ends last it = record {
  bytes = [];
  byte = it.0;
  prints = it.1.1;
  to_byte = subst (λ (b : Option ℕ). ToByte cycles (byte_of b) s told now told') it.1.0 (to_byte_by end cycles (byte_of byte) s now told told' goes ends);
  last = λ start serial so. subst (λ (bytes : List ℕ). PrintsLast cycles start bytes it.0 now told') (sym (append-nil serial)) (last it.0 it.1.0 start serial so);
}

-- The same where the part and its bus stay as they were.
pub settled_goes : (cut : Option Cut) (byte : Option ℕ) (end : Option firmware.RunEnd) (cycles : ℕ) (s m now : McuState) (told : Told) (mid left : WireView) (old new : Printed)
    → (end ≡ None → Further cycles (byte_of byte) s told m (told_of mid)) → ((e : firmware.RunEnd) → end ≡ Some e → ToEnd cycles (byte_of byte) e s told m (told_of mid)) → LastPrints cycles byte s told m (told_of mid)
    → now ≡ m → left ≡ mid → SettlesTo byte end cut old new → Goes cut cycles s told now (told_of left) old new
settled_goes cut byte end cycles s m now told mid left old new goes ends last same same_wire it =
    subst (λ (x : McuState). Goes cut cycles s told x (told_of left) old new) (sym same)
    (subst (λ (w : WireView). Goes cut cycles s told m (told_of w) old new) (sym same_wire) (settled cut byte end cycles s m told (told_of mid) old new goes ends last it))

-- Steps behind steps, where the limit of cycles is the same.
pub then_goes : (cut : Option Cut) (cycles n : ℕ) (s m now : McuState) (told between told' : Told) (old mid new : Printed) → n ≡ cycles → Walked cycles s told m between old mid → Goes cut n m between now told' mid new
    → Goes cut cycles s told now told' old new
then_goes cut cycles n s m now told between told' old mid new same way goes =
    walked_goes cut cycles s m now told between told' old mid new way (subst (λ (x : ℕ). Goes cut x m between now told' mid new) same goes)

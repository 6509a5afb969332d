-- One event more, for the framer.
use Rattle.std.proofs.Common.{◌≡◌, ℕ, suc, ◌+◌, ◌-◌, ◌*◌, ◌%◌, Bool, true, false, not, ◌&&◌, cond, eqb, ltb, leb, List, [], ◌∷◌, ◌++◌, length, refl, ap, ◌∙◌, arith, add-zero}
use Rattle.std.specs.Bool.{beq}
use Rattle.std.proofs.Math.Nat.{sub-zero}
use Rattle.std.proofs.lemmas.List.{length-append}
use Rattle.std.proofs.lemmas.Bool.{false≢true}
use Rattle.std.proofs.lemmas.Bool.Decides.{nat_tests}
use Rattle.board_bus.specs.declared.event.BusAnswer.{BusAnswer}
use Rattle.board_bus.specs.declared.event.BusEvent.TheVariants.{Select, Byte}
use Rattle.chip_sheet.specs.declared.event.Entry.TheVariants.{Bus}
use Rattle.chip_sheet.specs.Past.{Past}
use Rattle.chip_sheet.specs.Frames.{is_low, bytes_in, current, has_ended, data_length}
use Rattle.chip_sheet.proofs.FrameLaws.{next_frame, current-push, current-open, current-empty}
use Rattle.spi_frame.specs.declared.framer.Frame.{Frame}
use Rattle.spi_frame.specs.declared.framer.Frame.TheVariants.{Start, Body}
use Rattle.spi_frame.specs.Framer.{framer_of, frame_of, frame_after}

-- whether one more byte ends a frame that has not ended
ends_at : (d n m : ℕ) → m ≡ n + 1 → (ltb 0 d && leb (3 + d) (suc (suc (suc n)))) ≡ false → (ltb 0 d && leb (3 + d) (suc (suc (suc m)))) ≡ eqb (d - n) 1
ends_at d n m e h = grind (arith, nat_tests)

ends_not : (d : ℕ) → (ltb 0 d && leb (3 + d) 3) ≡ false
ends_not d = grind (arith, nat_tests)

wraps : (x n m : ℕ) → m ≡ n + 1 → (x + m) % 65536 ≡ ((x + n) % 65536 + 1) % 65536
wraps x n m e = omega arith

body_more : (c x n m d : ℕ) → m ≡ n + 1 → Body c ((x + m) % 65536) (d - m) ≡ Body c (((x + n) % 65536 + 1) % 65536) (d - n - 1)
body_more c x n m d e = let left : d - m ≡ d - n - 1 = omega arith in rw (wraps x n m e, left)

choose : (b : Bool) (frame : List ℕ) (next : Frame) → frame_of frame ≡ next → frame_of (cond b [] frame) ≡ cond b Start next
choose true frame next h = refl
choose false frame next h = h

-- what is kept of the frame after one more byte
frame_of-next : (frame : List ℕ) (v : ℕ) → has_ended frame ≡ false → frame_of (next_frame frame v) ≡ frame_after (frame_of frame) v
frame_of-next [] v h = refl
frame_of-next (a ∷ []) v h = refl
frame_of-next (a ∷ b ∷ []) v h = ap (λ e. frame_of (cond e [] (a ∷ b ∷ v ∷ []))) (ends_not (data_length v)) ∙ simp (add-zero, sub-zero)
frame_of-next (a ∷ b ∷ c ∷ taken) v h =
    let m = length-append taken (v ∷ []) in
    ap (λ e. frame_of (cond e [] (a ∷ b ∷ c ∷ (taken ++ v ∷ [])))) (ends_at (data_length c) (length taken) _ m h)
    ∙ choose _ _ _ (body_more c (a * 256 + b) (length taken) _ (data_length c) m)

select_low : (b : Bool) (bytes : List ℕ) → not (beq true b) ≡ true → frame_of (current (cond b bytes [])) ≡ Start
select_low true bytes h = absurd (false≢true h)
select_low false bytes h = ap frame_of current-empty

pub framer_of-select : (past : Past) (low : Bool) (a : BusAnswer) → not (beq low (is_low past)) ≡ true → framer_of (Bus (Select low) a ∷ past) ≡ record { low = low; frame = Start }
framer_of-select past true a h = ap (λ (f : Frame). record { low = true; frame = f }) (select_low (is_low past) (bytes_in past) h)
framer_of-select past false a h = refl

pub framer_of-byte : (past : Past) (v : ℕ) (a : BusAnswer) → is_low past ≡ true → framer_of (Bus (Byte v) a ∷ past) ≡ record { low = true; frame = frame_after (framer_of past).frame v }
framer_of-byte past v a h =
    rw h (ap (λ (f : Frame). record { low = true; frame = f }) (ap frame_of (current-push (bytes_in past) v) ∙ frame_of-next (current (bytes_in past)) v (current-open (bytes_in past))))

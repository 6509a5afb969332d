-- The words of firmware that gives the chip events are decoded to it.
use Rattle.std.proofs.Common.{◌≡◌, ℕ, suc, ◌+◌, ◌-◌, ◌<◌, ◌≤◌, ℤ, pos, negsuc, ◌-ℤ◌, List, [], ◌∷◌, ◌++◌, length, map, take, cond, true, false, refl, sym, ap, ap₂, subst, le-ltb, ◌∙◌, arith}
use Rattle.std.specs.Prelude.{codes, Ok}
use Rattle.std.proofs.lemmas.List.{map-append, length-append}
use Rattle.avr_sheet.proofs.Table.{table, same_at}
use Rattle.avr_table.specs.Decoded.{decoded}
use Rattle.avr_table.specs.declared.instr.Instr.TheVariants as instrs
use Rattle.avr_table.specs.declared.instr.Moves.TheVariants.{In, Out, Ldi}
use Rattle.avr_table.specs.declared.instr.Bits.TheVariants.{Break}
use Rattle.avr_table.specs.declared.instr.Instr.{Instr}
use Rattle.avr_table.specs.declared.instr.Jumps.TheVariants.{Ret, Rjmp, Rcall, Sbrs}
use Rattle.avr_enc.specs.Shapes.{near, with_constant}
use Rattle.board_bus.specs.declared.event.BusEvent.{BusEvent}
use Rattle.board_bus.specs.declared.event.BusEvent.TheVariants.{Select, Byte, Look}
use Rattle.board_echo.specs.Assembly.{Step, place_of, instrs_from, words_from, word, relative, steps_of, break}
use Rattle.board_echo.specs.Echo.{echo_lines, transfer}
use Rattle.board_echo.specs.Frames.{AreBytes, IsByte, FramesAreDecoded, event_steps, steps_for, frames_lines, frames_words}
use Rattle.board_echo.proofs.Firmware.{instrs_more, words_more, transfer_place, wait_place, steps_are, start_length, back_to_wait, firmware_length}

-- the words of steps are decoded to their instructions

abbrev pub Decodes : (List ℕ → ℕ) → ℕ → List Step → ℕ → Type 0
Decodes places at steps next = map (λ w. decoded w next) (words_from places at steps) ≡ map Ok (instrs_from places at steps)

both_decode : (places : List ℕ → ℕ) (at : ℕ) (xs ys : List Step) (next : ℕ)
    → Decodes places at xs next → Decodes places (at + length xs) ys next → Decodes places at (xs ++ ys) next
both_decode places at xs ys next first rest =
    let from = at + length xs in
    ap (λ l. map (λ w. decoded w next) l) (words_more places at xs ys)
    ∙ map-append (λ w. decoded w next) (words_from places at xs) (words_from places from ys)
    ∙ ap₂ (λ l m. l ++ m) first rest
    ∙ sym (map-append Ok (instrs_from places at xs) (instrs_from places from ys))
    ∙ ap (λ l. map Ok l) (sym (instrs_more places at xs ys))

-- the words of an event

loads : (next : ℕ) → table (λ (k : ℕ) v. decoded (with_constant 0xE000 24 v) next) 0 0 256 ≡ table (λ (k : ℕ) v. Ok (instrs.Moves (Ldi 24 v))) 0 0 256
unfolding decoded
loads next = refl

load_decodes : (v : ℕ) → v < 256 → (next : ℕ) → decoded (word (instrs.Moves (Ldi 24 v))) next ≡ Ok (instrs.Moves (Ldi 24 v))
load_decodes v small next =
    same_at (λ (k : ℕ) v. decoded (with_constant 0xE000 24 v) next) (λ (k : ℕ) v. Ok (instrs.Moves (Ldi 24 v))) 0 0 256 (loads next) v (omega arith) (omega (arith, small))

calls : (next : ℕ) → table (λ (k : ℕ) n. decoded (near 0xD000 (pos n)) next) 0 0 2048 ≡ table (λ (k : ℕ) n. Ok (instrs.Jumps (Rcall (pos n)))) 0 0 2048
unfolding decoded
calls next = refl

ahead : (target at : ℕ) → at < target → relative target at ≡ pos (target - suc at)
ahead target at h =
    let next : at + 1 ≡ suc at = omega arith in
    ap (λ n. pos target -ℤ pos n) next
    ∙ ap (λ b. cond b (negsuc (suc at - suc target)) (pos (target - suc at))) (le-ltb target (suc at) (omega (arith, h)))

call_decodes : (target at : ℕ) → at < target → target ≤ 2048 → (next : ℕ)
    → decoded (word (instrs.Jumps (Rcall (relative target at)))) next ≡ Ok (instrs.Jumps (Rcall (relative target at)))
call_decodes target at behind few next =
    let k = ahead target at behind in
    ap (λ z. decoded (near 0xD000 z) next) k
    ∙ same_at (λ (k : ℕ) n. decoded (near 0xD000 (pos n)) next) (λ (k : ℕ) n. Ok (instrs.Jumps (Rcall (pos n)))) 0 0 2048 (calls next) (target - suc at) (omega arith) (omega (arith, behind, few))
    ∙ ap (λ z. Ok (instrs.Jumps (Rcall z))) (sym k)

one_event : (places : List ℕ → ℕ) (at : ℕ) (e : BusEvent) (next : ℕ) → IsByte e
    → at + length (event_steps e) ≤ places (codes "XFER") → places (codes "XFER") ≤ 2048 → Decodes places at (event_steps e) next
unfolding decoded
one_event places at (Select true) next byte behind few = refl
one_event places at (Select false) next byte behind few = refl
one_event places at (Byte v) next byte behind few =
    ap₂ (λ m n. m ∷ n ∷ []) (load_decodes v byte next) (call_decodes (places (codes "XFER")) (at + 1) (omega (arith, behind)) few next)
one_event places at Look next byte behind few = refl

all_events : (places : List ℕ → ℕ) (at : ℕ) (es : List BusEvent) (next : ℕ) → AreBytes es
    → at + length (steps_for es) ≤ places (codes "XFER") → places (codes "XFER") ≤ 2048 → Decodes places at (steps_for es) next
all_events places at [] next bytes behind few = refl
all_events places at (e ∷ es) next bytes behind few =
    let many = length-append (event_steps e) (steps_for es) in
    both_decode places at (event_steps e) (steps_for es) next
    (one_event places at e next bytes.0 (omega (arith, many, behind)) few)
    (all_events places (at + length (event_steps e)) es next bytes.1 (omega (arith, many, behind)) few)

-- the start and the end

start_decodes : (places : List ℕ → ℕ) (next : ℕ) → Decodes places 0 (take 7 (steps_of echo_lines)) next
unfolding decoded echo_lines
start_decodes places next = refl

abbrev last : ℤ → List Instr
last k =
    instrs.Bits Break ∷ instrs.Moves (Out 24 0x2E) ∷ instrs.Moves (In 0 0x2D) ∷ instrs.Jumps (Sbrs 0 7) ∷ instrs.Jumps (Rjmp k)
    ∷ instrs.Moves (In 24 0x2E) ∷ instrs.Jumps Ret ∷ []

last_decodes : (next : ℕ) → map (λ w. decoded w next) (map word (last (negsuc 2))) ≡ map Ok (last (negsuc 2))
unfolding decoded
last_decodes next = refl

end_decodes : (places : List ℕ → ℕ) (at next : ℕ) → places (codes "XW") ≡ at + 2 → Decodes places at (break ∷ steps_of transfer) next
end_decodes places at next is =
    subst (λ k. map (λ w. decoded w next) (map word (last k)) ≡ map Ok (last k)) (sym (back_to_wait places at is)) (last_decodes next)

-- the whole

pub frames_decode : FramesAreDecoded
unfolding frames_words
frames_decode events bytes few next =
    let places = place_of (frames_lines events) in
    let start = take 7 (steps_of echo_lines) in
    let end = break ∷ steps_of transfer in
    let seven = start_length in
    let long = firmware_length events in
    let to = transfer_place events in
    let wait = wait_place events in
    let whole = both_decode places 0 start (steps_for events ++ end) next (start_decodes places next)
    (both_decode places (0 + length start) (steps_for events) end next
    (all_events places (0 + length start) events next bytes (omega (arith, seven, to)) (omega (arith, seven, to, long, few)))
    (end_decodes places (0 + length start + length (steps_for events)) next (omega (arith, seven, wait)))) in
    subst (λ steps. Decodes places 0 steps next) (sym (steps_are events)) whole

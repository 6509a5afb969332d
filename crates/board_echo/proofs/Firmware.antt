-- The words of firmware that gives the chip events, part by part.
use Rattle.std.proofs.Common.{◌≡◌, ℕ, suc, ◌+◌, ◌-◌, pos, negsuc, ◌-ℤ◌, List, [], ◌∷◌, ◌++◌, length, map, take, true, false, refl, sym, ap, ap₂, cond, lt-ltb, ◌∙◌, arith, append_assoc}
use Rattle.std.specs.Prelude.{codes}
use Rattle.std.proofs.lemmas.List.{length-append, append-nil, map-append}
use Rattle.avr_enc.specs.Shapes.{near}
use Rattle.board_bus.specs.declared.event.BusEvent.{BusEvent}
use Rattle.board_bus.specs.declared.event.BusEvent.TheVariants.{Select, Byte, Look}
use Rattle.board_echo.specs.Assembly.{Step, place_of, instr_at, instrs_from, word, words_from, relative, steps_of, break}
use Rattle.board_echo.specs.Echo.{echo_lines, transfer}
use Rattle.board_echo.specs.Frames.{event_steps, event_words, steps_for, frames_lines, frames_words}
use Rattle.board_echo.specs.declared.frames.TheConstants.{START, END}

-- a target two words behind

behind : (target : ℕ) → pos target -ℤ pos (target + 3) ≡ negsuc 2
behind target =
    let next : target + 3 ≡ suc (target + 2) = omega arith in
    let two : suc (target + 2) - suc target ≡ 2 = omega arith in
    ap (λ n. pos target -ℤ pos n) next
    ∙ ap (λ b. cond b (negsuc (suc (target + 2) - suc target)) (pos (target - suc (target + 2)))) (lt-ltb target (suc (target + 2)) (omega arith))
    ∙ ap negsuc two

-- words of more steps

words_length : (places : List ℕ → ℕ) (at : ℕ) (xs : List Step) → length (words_from places at xs) ≡ length xs
words_length places at [] = refl
words_length places at (x ∷ xs) = ap suc (words_length places (at + 1) xs)

pub instrs_more : (places : List ℕ → ℕ) (at : ℕ) (xs ys : List Step)
    → instrs_from places at (xs ++ ys) ≡ instrs_from places at xs ++ instrs_from places (at + length xs) ys
instrs_more places at [] ys = let e : at ≡ at + 0 = omega arith in ap (λ n. instrs_from places n ys) e
instrs_more places at (x ∷ xs) ys =
    let e : at + 1 + length xs ≡ at + suc (length xs) = omega arith in
    ap (λ l. instr_at places at x ∷ l) (instrs_more places (at + 1) xs ys ∙ ap (λ n. instrs_from places (at + 1) xs ++ instrs_from places n ys) e)

pub words_more : (places : List ℕ → ℕ) (at : ℕ) (xs ys : List Step)
    → words_from places at (xs ++ ys) ≡ words_from places at xs ++ words_from places (at + length xs) ys
words_more places at xs ys =
    ap (λ l. map word l) (instrs_more places at xs ys) ∙ map-append word (instrs_from places at xs) (instrs_from places (at + length xs) ys)

-- the events

one_event : (places : List ℕ → ℕ) (at : ℕ) (event : BusEvent)
    → words_from places at (event_steps event) ≡ event_words (places (codes "XFER")) at event
one_event places at (Select true) = refl
one_event places at (Select false) = refl
one_event places at (Byte v) = refl
one_event places at Look = refl

-- what is left of the words of events, behind a place
abbrev pub events_left : ℕ → ℕ → List BusEvent → List ℕ
events_left transfer at events = words_from (λ label. transfer) at (steps_for events)

same_events : (places : List ℕ → ℕ) (at : ℕ) (events : List BusEvent)
    → words_from places at (steps_for events) ≡ events_left (places (codes "XFER")) at events
same_events places at [] = refl
same_events places at (e ∷ es) =
    words_more places at (event_steps e) (steps_for es)
    ∙ ap₂ (λ l m. l ++ m) (one_event places at e) (same_events places (at + length (event_steps e)) es)
    ∙ sym (words_more (λ label. places (codes "XFER")) at (event_steps e) (steps_for es))

pub one_more : (done : List ℕ) (to : ℕ) (e : BusEvent) (es : List BusEvent)
    → (done ++ event_words to (length done) e) ++ events_left to (length (done ++ event_words to (length done) e)) es ≡ done ++ events_left to (length done) (e ∷ es)
one_more done to e es =
    let many = length-append done (event_words to (length done) e) ∙ ap (λ n. length done + n) (words_length (λ label. to) (length done) (event_steps e)) in
    let more : event_words to (length done) e ++ events_left to (length done + length (event_steps e)) es ≡ events_left to (length done) (e ∷ es) =
    sym (words_more (λ label. to) (length done) (event_steps e) (steps_for es)) in
    append_assoc done (event_words to (length done) e) (events_left to (length (done ++ event_words to (length done) e)) es)
    ∙ ap (λ n. done ++ (event_words to (length done) e ++ events_left to n es)) many
    ∙ ap (λ l. done ++ l) more

-- the whole

pub transfer_place : (events : List BusEvent) → place_of (frames_lines events) (codes "XFER") ≡ 0 + 7 + length (steps_for events) + 1
unfolding frames_lines echo_lines
transfer_place events = refl

pub wait_place : (events : List BusEvent) → place_of (frames_lines events) (codes "XW") ≡ 0 + 7 + length (steps_for events) + 1 + 1
unfolding frames_lines echo_lines
wait_place events = refl

pub steps_are : (events : List BusEvent) → steps_of (frames_lines events) ≡ take 7 (steps_of echo_lines) ++ (steps_for events ++ break ∷ steps_of transfer)
unfolding frames_lines echo_lines
steps_are events = refl

start_is : (places : List ℕ → ℕ) → words_from places 0 (take 7 (steps_of echo_lines)) ≡ START
unfolding echo_lines
start_is places = refl

pub start_length : length (take 7 (steps_of echo_lines)) ≡ 7
unfolding echo_lines
start_length = refl

five_on : (at : ℕ) → at + 1 + 1 + 1 + 1 + 1 ≡ at + 2 + 3
five_on at = omega arith

pub back_to_wait : (places : List ℕ → ℕ) (at : ℕ) → places (codes "XW") ≡ at + 2 → relative (places (codes "XW")) (at + 1 + 1 + 1 + 1) ≡ negsuc 2
back_to_wait places at is = ap₂ (λ m n. pos m -ℤ pos n) is (five_on at) ∙ behind (at + 2)

end_is : (places : List ℕ → ℕ) (at : ℕ) → places (codes "XW") ≡ at + 2 → words_from places at (break ∷ steps_of transfer) ≡ END
end_is places at is = ap (λ k. 0x9598 ∷ 0xBD8E ∷ 0xB40D ∷ 0xFE07 ∷ near 0xC000 k ∷ 0xB58E ∷ 0x9508 ∷ []) (back_to_wait places at is)

pub firmware_is : (events : List BusEvent) (many : ℕ) → many ≡ length (steps_for events)
    → (START ++ events_left (many + 8) 7 events) ++ END ≡ frames_words events
unfolding frames_words
firmware_is events many is =
    let places = place_of (frames_lines events) in
    let start = take 7 (steps_of echo_lines) in
    let last = break ∷ steps_of transfer in
    let at_events : 0 + length start ≡ 7 = omega (arith, start_length) in
    let at_end : 0 + length start + length (steps_for events) ≡ 7 + many = omega (arith, start_length, is) in
    let goal_of_calls : many + 8 ≡ places (codes "XFER") = let at = transfer_place events in omega (arith, at, is) in
    let wait : places (codes "XW") ≡ 7 + many + 2 = let at = wait_place events in omega (arith, at, is) in
    let whole =
    ap (λ l. words_from places 0 l) (steps_are events)
    ∙ words_more places 0 start (steps_for events ++ last)
    ∙ ap₂ (λ l m. l ++ m) (start_is places) (words_more places (0 + length start) (steps_for events) last
    ∙ ap₂ (λ m n. words_from places m (steps_for events) ++ words_from places n last) at_events at_end
    ∙ ap₂ (λ l m. l ++ m) (same_events places 7 events ∙ ap (λ t. events_left t 7 events) (sym goal_of_calls)) (end_is places (7 + many) wait)) in
    append_assoc START (events_left (many + 8) 7 events) END ∙ sym whole

pub firmware_length : (events : List BusEvent) → length (frames_words events) ≡ length (steps_for events) + 14
unfolding frames_words
firmware_length events =
    let all = words_length (place_of (frames_lines events)) 0 (steps_of (frames_lines events))
    ∙ ap length (steps_are events)
    ∙ length-append (take 7 (steps_of echo_lines)) (steps_for events ++ break ∷ steps_of transfer) in
    let rest = length-append (steps_for events) (break ∷ steps_of transfer) in
    omega (arith, all, rest, start_length)

-- behind the last event

pub no_more : (done all : List ℕ) (to at : ℕ) (rest : List BusEvent) → rest ≡ [] → done ++ events_left to at rest ≡ all → done ≡ all
no_more done all to at rest none is = sym (append-nil done) ∙ ap (λ es. done ++ events_left to at es) (sym none) ∙ is

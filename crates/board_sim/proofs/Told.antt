-- The events of a step stand in the board's history, with their answers, up to one that gets none.
use Rattle.std.proofs.Common.{◌≡◌, ℕ, ◌+◌, Bool, true, false, ◌||◌, if◌then◌else◌, [], ◌∷◌, ◌++◌, Option, None, Some, refl, sym, ap, ◌∙◌, subst}
use Rattle.std.proofs.lemmas.Bool.{false≢true}
use Rattle.board_bus.specs.declared.event.BusEvent.{BusEvent}
use Rattle.chip_sheet.specs.declared.event.Entry.TheVariants.{Bus}
use Rattle.chip_sheet.specs.Past.{Past}
use Rattle.chip_sheet.specs.Streams.{Starts}
use Rattle.chip_sheet.specs.Answers.{answer}
use Rattle.chip_sheet.specs.Stops.{stop}
use Rattle.avr_core.specs.Ask.{Give, Call, Plays}
use Rattle.avr_space.specs.Peer.{AnswerTo, OfBus}
use Rattle.avr_mcu.specs.Answers.{reads, over, first_wanted}
use Rattle.avr_run.specs.Steps.{played}
use Rattle.avr_run.specs.Told.{Told, Tells}
use Rattle.avr_run.proofs.Told.{Came, plays-told, tells-answer, tells-refusal}
use Rattle.board_sim.specs.Boards.{Board, answers, next, is_refused, is_full_at, is_there, counted}
use Rattle.board_sim.specs.Exchanges.{asked_of, answers_of}

abbrev pub told_of : Board → Told
told_of b = record { asked = asked_of b.past; answers = answers_of b.past; wanted = b.wanted }

abbrev Asks : Board → (c : BusEvent) → AnswerTo c → Board → Type 0
Asks p c a q = (a ≡ answers p c) × (q ≡ next p c)

-- An event, by whether it is refused.
answers_by : (b : Board) (c : BusEvent) (refused : Bool) → is_refused b c ≡ refused → answers b c ≡ (if refused then over c else reads c (answer b.starts b.past c))
unfolding answers
answers_by b c refused is = rw is refl

next_by : (b : Board) (c : BusEvent) (refused : Bool) → is_refused b c ≡ refused
    → next b c ≡ (if refused then record b { wanted = first_wanted c b.wanted } else record b { past = Bus c (answer b.starts b.past c) ∷ b.past; bytes = b.bytes + counted c })
unfolding next
next_by b c refused is = rw is refl

none_there : (wanted : Option BusEvent) (other : Bool) → (is_there wanted || other) ≡ false → wanted ≡ None
none_there None other e = refl
none_there (Some c) other e = absurd (false≢true (sym e))

asks_by : (b : Board) (c : BusEvent) (refused : Bool) → is_refused b c ≡ refused → Tells c (told_of b) (answers b c) (told_of (next b c))
asks_by b c true is = tells-refusal c (told_of b) (told_of (next b c)) (answers b c) (ap told_of (next_by b c true is)) (answers_by b c true is)
asks_by b c false is =
    let none = none_there b.wanted (is_full_at b.events b.past || is_there (stop b.starts b.past c)) is in
    let x = answer b.starts b.past c in
    tells-answer c (told_of b) (told_of (next b c)) x (answers b c) none
    (ap told_of (next_by b c false is) ∙ ap (λ (w : Option BusEvent). record { asked = asked_of b.past ++ c ∷ []; answers = answers_of b.past ++ x ∷ []; wanted = w }) none)
    (answers_by b c false is)

asks_tell : (p : Board) (c : BusEvent) (a : AnswerTo c) (q : Board) → Asks p c a q → Tells c (told_of p) a (told_of q)
asks_tell p c a q it =
    subst (λ (x : AnswerTo c). Tells c (told_of p) x (told_of q)) (sym it.0)
    (subst (λ (x : Board). Tells c (told_of p) (answers p c) (told_of x)) (sym it.1) (asks_by p c (is_refused p c) refl))

-- A step is a play.
plays : {R : Type 0} (tree : OfBus R) (b : Board) → Plays Asks b tree (played answers next tree b).result (played answers next tree b).bus
plays (Give r) b = (refl, refl)
plays (Call c go) b = (answers b c, next b c, (refl, refl), plays (go (answers b c)) (next b c))

-- What a step comes to on the answers that it added.
pub played_came : {R : Type 0} (tree : OfBus R) (b : Board) → b.wanted ≡ None → Came tree (told_of b) (played answers next tree b).result (told_of (played answers next tree b).bus)
played_came tree b none = plays-told told_of Asks asks_tell tree b (played answers next tree b).bus (played answers next tree b).result none (plays tree b)

-- The first event that got no answer is refused still: the history is full, or the chip stops at it.
abbrev pub IsDenied : Starts → ℕ → Past → Option BusEvent → Type 0
IsDenied starts events past None = Unit {0}
IsDenied starts events past (Some c) = (is_full_at events past || is_there (stop starts past c)) ≡ true

pub record Denies (before after : Board) : Type 0 where
  pub starts : after.starts ≡ before.starts
  pub events : after.events ≡ before.events
  pub denied : IsDenied after.starts after.events after.past after.wanted

first_denied : (starts : Starts) (events : ℕ) (past : Past) (c : BusEvent) (wanted : Option BusEvent) → (is_there wanted || (is_full_at events past || is_there (stop starts past c))) ≡ true
    → IsDenied starts events past wanted → IsDenied starts events past (first_wanted c wanted)
first_denied starts events past c None is denied = is
first_denied starts events past c (Some first) is denied = denied

denies_by : (b : Board) (c : BusEvent) (refused : Bool) → is_refused b c ≡ refused → IsDenied b.starts b.events b.past b.wanted → Denies b (next b c)
denies_by b c true is denied =
    subst (Denies b) (sym (next_by b c true is)) (record { starts = refl; events = refl; denied = first_denied b.starts b.events b.past c b.wanted is denied })
denies_by b c false is denied =
    let none = none_there b.wanted (is_full_at b.events b.past || is_there (stop b.starts b.past c)) is in
    let past = Bus c (answer b.starts b.past c) ∷ b.past in
    subst (Denies b) (sym (next_by b c false is)) (record { starts = refl; events = refl; denied = subst (IsDenied b.starts b.events past) (sym none) tt })

pub played_denies : {R : Type 0} (tree : OfBus R) (b : Board) → IsDenied b.starts b.events b.past b.wanted → Denies b (played answers next tree b).bus
played_denies (Give r) b denied = record { starts = refl; events = refl; denied = denied }
played_denies (Call c go) b denied =
    let one = denies_by b c (is_refused b c) refl denied in
    let rest = played_denies (go (answers b c)) (next b c) one.denied in
    record { starts = rest.starts ∙ one.starts; events = rest.events ∙ one.events; denied = rest.denied }

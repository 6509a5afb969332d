-- A line that is told step by step.
use Rattle.std.proofs.Common.{◌≡◌, ℕ, List, [], ◌∷◌, ◌++◌, append_assoc, append-nil, Option, None, Some, Err, refl, sym, ap, ◌∙◌, inl, inr}
use Rattle.std.specs.Prelude.{IsSome, unwrap_or, option_map}
use Rattle.board_bus.specs.declared.event.BusAnswer.{BusAnswer}
use Rattle.chip_sheet.specs.declared.stop.ChipStop.{ChipStop}
use Rattle.chip_sheet.specs.declared.event.Entry.TheVariants.{Link}
use Rattle.chip_sheet.specs.Past.{Past, GoesOn}
use Rattle.chip_sheet.specs.Streams.{Starts}
use Rattle.chip_sheet.specs.Answers.{answer}
use Rattle.chip_sheet.specs.Replay.{Step, Asks, Happens, Told, Ending, AllTaken, StoppedBy, told, answered, ends_with, with_answer}
use Rattle.chip_sheet.specs.Replay as replay
use Rattle.board_gen.proofs.ToldLaws.{asks, happens, told_goes_on}
use Rattle.board_text.specs.Answers.{joined}
use Rattle.board_gen.specs.declared.session.Halt.{Halt}
use Rattle.board_gen.specs.declared.session.Halt.TheVariants.{Stopped, NotDue, NoMemory}
use Rattle.board_gen.specs.Session.{Takes, Halts}
use Rattle.board_gen.specs.Run.{listed, steps_in, IsTaken, GivesStep, IsLine, GivesLine}
use Rattle.board_gen.specs.Tokens.{tokens, token_step, steps}
use Rattle.board_gen.proofs.Each.{steps_on, first_step}

-- what is told, behind answers that are there already
abbrev pub behind : List BusAnswer → Told → Told
behind answers it = record { answers = answers ++ it.answers; past = it.past; ending = it.ending }

behind-both : (a b : List BusAnswer) (it : Told) → behind a (behind b it) ≡ behind (a ++ b) it
behind-both a b it =
    ap (λ (answers : List BusAnswer). record { answers = answers; past = it.past; ending = it.ending }) (sym (append_assoc a b it.answers))

-- a step that is taken
told_takes : (starts : Starts) (old new : Past) (step : Step) (a : Option BusAnswer) (more : List Step) → Takes starts old step a new
    → told starts old (step ∷ more) ≡ behind (listed a) (told starts new more)
told_takes starts old new (Asks e) (Some a) more (allowed, is, added) =
    ap (λ clear. asks clear old (answer starts old e) (told starts (answered starts old e) more)) allowed
    ∙ rw (is, added) refl
told_takes starts old new (Asks e) None more takes = absurd takes
told_takes starts old new (Happens n what) (Some a) more takes = absurd takes
told_takes starts old new (Happens n what) None more (fits, added) =
    ap (λ due. happens due old (told starts (Link n what ∷ old) more)) fits
    ∙ rw added refl

-- a step that is not
told_stops : (starts : Starts) (old : Past) (step : Step) (s : ChipStop) (more : List Step) → Halts starts old step (Stopped s)
    → told starts old (step ∷ more) ≡ ends_with old (StoppedBy s)
told_stops starts old (Asks e) s more stops =
    ap (λ clear. asks clear old (answer starts old e) (told starts (answered starts old e) more)) stops
told_stops starts old (Happens n what) s more stops = absurd stops

told_not_due : (starts : Starts) (old : Past) (step : Step) (more : List Step) → Halts starts old step NotDue
    → told starts old (step ∷ more) ≡ ends_with old replay.NotDue
told_not_due starts old (Asks e) more unfit = absurd unfit
told_not_due starts old (Happens n what) more unfit = ap (λ due. happens due old (told starts (Link n what ∷ old) more)) unfit

-- some steps are taken, and what is left makes the whole after them
pub record LineSoFar (starts : Starts) (whole : Told) (past : Past) (left : List Step) (text : List ℕ) : Type 0 where
  pub done : List BusAnswer
  pub printed : text ≡ joined done
  pub so_far : behind done (told starts past left) ≡ whole

pub line_none : (starts : Starts) (past : Past) (left : List Step) (text : List ℕ) → text ≡ [] → LineSoFar starts (told starts past left) past left text
line_none starts past left text none = record { done = []; printed = none; so_far = refl }

mapped_in : (step : Step) (o : Option (List Step)) → IsSome (option_map (λ rest. step ∷ rest) o) → unwrap_or (option_map (λ rest. step ∷ rest) o) [] ≡ step ∷ unwrap_or o []
mapped_in step None there = cc
mapped_in step (Some rest) there = refl

-- the first of the steps that are left
first_in : (rest after word : List ℕ) (step : Step) → tokens rest ≡ word ∷ tokens after → token_step word ≡ Some step → IsSome (steps (tokens rest)) → steps_in rest ≡ step ∷ steps_in after
first_in rest after word step first is there =
    let on = steps_on (tokens rest) word (tokens after) step first is in
    ap (λ (o : Option (List Step)). unwrap_or o []) on ∙ mapped_in step (steps (tokens after)) (rw on at there)

so_far_next : (starts : Starts) (whole : Told) (past new : Past) (step : Step) (a : Option BusAnswer) (more : List Step) (done : List BusAnswer) → Takes starts past step a new
    → behind done (told starts past (step ∷ more)) ≡ whole → behind (done ++ listed a) (told starts new more) ≡ whole
so_far_next starts whole past new step a more done takes so_far =
    sym (behind-both done (listed a) (told starts new more))
    ∙ ap (behind done) (sym (told_takes starts past new step a more takes))
    ∙ so_far

-- one step more is taken
pub line_more : (starts : Starts) (whole : Told) (past new : Past) (rest after word : List ℕ) (step : Step) (text text' : List ℕ) → IsTaken starts past step new text text'
    → tokens rest ≡ word ∷ tokens after → token_step word ≡ Some step → IsSome (steps (tokens rest)) → LineSoFar starts whole past (steps_in rest) text → LineSoFar starts whole new (steps_in after) text'
line_more starts whole past new rest after word step text text' taken first is there far = record {
  done = far.done ++ listed taken.answer;
  printed = taken.printed far.done far.printed;
  so_far = so_far_next starts whole past new step taken.answer (steps_in after) far.done taken.takes (rw (first_in rest after word step first is there) at far.so_far);
}

-- what is left only adds to the history
pub line_given_up : (starts : Starts) (whole : Told) (past : Past) (left : List Step) (text : List ℕ) → LineSoFar starts whole past left text → GoesOn past whole.past
line_given_up starts whole past left text far =
    let on = told_goes_on starts past left in (on.0, sym (ap (λ (it : Told). it.past) far.so_far) ∙ on.1)

ends_here : (starts : Starts) (whole : Told) (past : Past) (left : List Step) (text : List ℕ) (ending : Ending) → told starts past left ≡ ends_with past ending → LineSoFar starts whole past left text
    → IsLine whole ending past text
ends_here starts whole past left text ending is far =
    let ends : behind far.done (ends_with past ending) ≡ whole = ap (behind far.done) (sym is) ∙ far.so_far in
    record {
      ends = sym (ap (λ (it : Told). it.ending) ends);
      happened = ap (λ (it : Told). it.past) ends;
      printed = far.printed ∙ ap joined (sym (append-nil far.done) ∙ ap (λ (it : Told). it.answers) ends);
    }

-- no step is left
pub line_ends : (starts : Starts) (whole : Told) (past : Past) (rest text : List ℕ) → tokens rest ≡ [] → LineSoFar starts whole past (steps_in rest) text → IsLine whole AllTaken past text
line_ends starts whole past rest text none far =
    ends_here starts whole past (steps_in rest) text AllTaken (ap (λ (words : List (List ℕ)). told starts past (unwrap_or (steps words) [])) none) far

-- the next step is not taken, or its answer is not printed
pub line_halts : (starts : Starts) (whole : Told) (past new : Past) (rest after word : List ℕ) (step : Step) (halt : Halt) (text text' : List ℕ) → GivesStep starts past step (Err halt) new text text'
    → tokens rest ≡ word ∷ tokens after → token_step word ≡ Some step → IsSome (steps (tokens rest)) → LineSoFar starts whole past (steps_in rest) text → GivesLine whole (Err halt) new text'
line_halts starts whole past new rest after word step (Stopped s) text text' (stops, same, kept) first is there far =
    rw (same, kept) (ends_here starts whole past (steps_in rest) text (StoppedBy s) (ap (told starts past) (first_in rest after word step first is there) ∙ told_stops starts past step s (steps_in after) stops) far)
line_halts starts whole past new rest after word step NotDue text text' (unfit, same, kept) first is there far =
    rw (same, kept) (ends_here starts whole past (steps_in rest) text replay.NotDue (ap (told starts past) (first_in rest after word step first is there) ∙ told_not_due starts past step (steps_in after) unfit) far)
line_halts starts whole past new rest after word step NoMemory text text' (inl same) first is there far =
    rw same (line_given_up starts whole past (steps_in rest) text far)
line_halts starts whole past new rest after word step NoMemory text text' (inr taken) first is there far =
    let on = told_goes_on starts new (steps_in after) in
    let next = so_far_next starts whole past new step taken.0 (steps_in after) far.done taken.1 (rw (first_in rest after word step first is there) at far.so_far) in
    (on.0, sym (ap (λ (it : Told). it.past) next) ∙ on.1)

-- the same of a token, which is one
there_is : (o : Option Step) → IsSome o → (step : Step) × (o ≡ Some step)
there_is None there = absurd (cc there)
there_is (Some step) there = (step, refl)

pub word_is : (rest after word : List ℕ) → tokens rest ≡ word ∷ tokens after → IsSome (steps (tokens rest)) → (step : Step) × (token_step word ≡ Some step)
word_is rest after word first there = there_is (token_step word) (first_step (tokens rest) word (tokens after) first there)

-- Lines that are run one after another are told what all of their steps are.
use Rattle.std.proofs.Common.{◌≡◌, ◌≢◌, ℕ, ◌+◌, Bool, true, false, List, [], ◌∷◌, ◌++◌, Option, None, Some, refl, sym, ap, ◌∙◌}
use Rattle.board_bus.specs.declared.event.BusAnswer.{BusAnswer}
use Rattle.chip_sheet.specs.declared.stop.ChipStop.{ChipStop}
use Rattle.chip_sheet.specs.declared.event.Entry.TheVariants.{Link}
use Rattle.chip_sheet.specs.Past.{Past}
use Rattle.chip_sheet.specs.Streams.{Starts}
use Rattle.chip_sheet.specs.Answers.{answer}
use Rattle.chip_sheet.specs.Stops.{stop}
use Rattle.chip_sheet.specs.LinkCalls.{fits}
use Rattle.chip_sheet.specs.Replay.{Step, Asks, Happens, Told, Ending, AllTaken, StoppedBy, NotDue, answered, told, with_answer}
use Rattle.board_gen.proofs.ToldLaws.{asks, happens, told_joined}
use Rattle.board_gen.specs.Shown.{followed, line_shown, shown_from}
use Rattle.board_gen.specs.Replayed.{all_steps, IsTold, LinesAreTold}

asks_stays : (clear : Option ChipStop) (past : Past) (a : BusAnswer) (front whole : Told) → (front.ending ≢ AllTaken → whole ≡ front) → (asks clear past a front).ending ≢ AllTaken → asks clear past a whole ≡ asks clear past a front
asks_stays None past a front whole stays not = ap (with_answer a) (stays not)
asks_stays (Some s) past a front whole stays not = refl

happens_stays : (due : Bool) (past : Past) (front whole : Told) → (front.ending ≢ AllTaken → whole ≡ front) → (happens due past front).ending ≢ AllTaken → happens due past whole ≡ happens due past front
happens_stays true past front whole stays not = stays not
happens_stays false past front whole stays not = refl

-- steps that do not come to their end stay what they are, whatever comes behind them
told_stays : (starts : Starts) (past : Past) (xs ys : List Step) → (told starts past xs).ending ≢ AllTaken → told starts past (xs ++ ys) ≡ told starts past xs
told_stays starts past [] ys not = absurd (not refl)
told_stays starts past (Asks e ∷ more) ys not =
    asks_stays (stop starts past e) past (answer starts past e) (told starts (answered starts past e) more) (told starts (answered starts past e) (more ++ ys)) (told_stays starts (answered starts past e) more ys) not
told_stays starts past (Happens n what ∷ more) ys not =
    happens_stays (fits starts past n what) past (told starts (Link n what ∷ past) more) (told starts (Link n what ∷ past) (more ++ ys)) (told_stays starts (Link n what ∷ past) more ys) not

first_told : (starts : Starts) (past : Past) (n : ℕ) (steps : List Step) (more : List (List Step)) (ending : Ending) → (told starts past steps).ending ≡ ending
    → IsTold starts (told starts past steps).past (all_steps more) (shown_from starts (told starts past steps).past (n + 1) more)
    → let line = line_shown n (told starts past steps) ending in IsTold starts past (steps ++ all_steps more) (followed line line.end (shown_from starts line.past (n + 1) more))
first_told starts past n steps more AllTaken is rest =
    let joined = told_joined starts past steps (all_steps more) is in
    record { happened = rest.happened ∙ sym joined.past; ends = rw joined.ending rest.ends }
first_told starts past n steps more (StoppedBy s) is rest =
    let stays = told_stays starts past steps (all_steps more) (λ taken. cc (sym is ∙ taken)) in
    record { happened = sym (ap (λ (it : Told). it.past) stays); ends = ap (λ (it : Told). it.ending) stays ∙ is }
first_told starts past n steps more NotDue is rest =
    let stays = told_stays starts past steps (all_steps more) (λ taken. cc (sym is ∙ taken)) in
    record { happened = sym (ap (λ (it : Told). it.past) stays); ends = (refl, ap (λ (it : Told). it.ending) stays ∙ is) }

pub lines_told : LinesAreTold
lines_told starts past n [] = record { happened = refl; ends = refl }
lines_told starts past n (steps ∷ more) =
    let it = told starts past steps in first_told starts past n steps more it.ending refl (lines_told starts it.past (n + 1) more)

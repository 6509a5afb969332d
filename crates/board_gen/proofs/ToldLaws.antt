-- What steps are told, step by step: it stays, whatever comes later, and a legal past goes on legally.
use Rattle.std.proofs.Common.{◌≡◌, ◌<◌, ℕ, zero, suc, Bool, true, false, List, [], ◌∷◌, ◌++◌, append_assoc, Option, None, Some, slice_get, refl, sym, ap, ◌∙◌}
use Rattle.board_bus.specs.declared.event.BusEvent.{BusEvent}
use Rattle.board_bus.specs.declared.event.BusAnswer.{BusAnswer}
use Rattle.chip_sheet.specs.declared.stop.ChipStop.{ChipStop}
use Rattle.chip_sheet.specs.declared.event.Entry.{Entry}
use Rattle.chip_sheet.specs.declared.event.Entry.TheVariants.{Bus, Link}
use Rattle.chip_sheet.specs.declared.event.LinkEntry.{LinkEntry}
use Rattle.chip_sheet.specs.Past.{Past, GoesOn}
use Rattle.chip_sheet.specs.Streams.{Starts}
use Rattle.chip_sheet.specs.Answers.{answer}
use Rattle.chip_sheet.specs.Stops.{stop}
use Rattle.chip_sheet.specs.LinkCalls.{fits}
use Rattle.chip_sheet.specs.Legal.{Legal}
use Rattle.chip_sheet.specs.Replay.{Step, Asks, Happens, AllTaken, StoppedBy, NotDue, Told, told, answered, ends_with, with_answer}

-- One step and what the rest is told.
abbrev pub asks : Option ChipStop → Past → BusAnswer → Told → Told
asks clear past a rest = elim clear [ Some s ↦ ends_with past (StoppedBy s) | None ↦ with_answer a rest ]

abbrev pub happens : Bool → Past → Told → Told
happens due past rest = elim due [ true ↦ rest | false ↦ ends_with past NotDue ]

-- The whole is what the first steps are told and then the others.
pub record Joined (front back whole : Told) : Type 0 where
  pub answers : whole.answers ≡ front.answers ++ back.answers
  pub past : whole.past ≡ back.past
  pub ending : whole.ending ≡ back.ending

asks_joined : (starts : Starts) (ys : List Step) (clear : Option ChipStop) (past : Past) (a : BusAnswer) (front whole : Told)
    → (front.ending ≡ AllTaken → Joined front (told starts front.past ys) whole)
    → (asks clear past a front).ending ≡ AllTaken → Joined (asks clear past a front) (told starts (asks clear past a front).past ys) (asks clear past a whole)
asks_joined starts ys None past a front whole rest h =
    let it = rest h in
    record { answers = ap (λ (more : List BusAnswer). a ∷ more) it.answers; past = it.past; ending = it.ending }
asks_joined starts ys (Some s) past a front whole rest h = cc

happens_joined : (starts : Starts) (ys : List Step) (due : Bool) (past : Past) (front whole : Told)
    → (front.ending ≡ AllTaken → Joined front (told starts front.past ys) whole)
    → (happens due past front).ending ≡ AllTaken → Joined (happens due past front) (told starts (happens due past front).past ys) (happens due past whole)
happens_joined starts ys true past front whole rest h = rest h
happens_joined starts ys false past front whole rest h = cc

pub told_joined : (starts : Starts) (past : Past) (xs ys : List Step) → (told starts past xs).ending ≡ AllTaken
    → Joined (told starts past xs) (told starts (told starts past xs).past ys) (told starts past (xs ++ ys))
told_joined starts past [] ys h = record { answers = refl; past = refl; ending = refl }
told_joined starts past (Asks e ∷ more) ys h =
    asks_joined starts ys (stop starts past e) past (answer starts past e) (told starts (answered starts past e) more) (told starts (answered starts past e) (more ++ ys))
    (λ rest. told_joined starts (answered starts past e) more ys rest) h
told_joined starts past (Happens n what ∷ more) ys h =
    happens_joined starts ys (fits starts past n what) past (told starts (Link n what ∷ past) more) (told starts (Link n what ∷ past) (more ++ ys))
    (λ rest. told_joined starts (Link n what ∷ past) more ys rest) h

-- The past goes on from the one before the steps.
one_more : (entry : Entry) (past newer : Past) → GoesOn (entry ∷ past) newer → GoesOn past newer
one_more entry past newer (more, e) = (more ++ entry ∷ [], e ∙ sym (append_assoc more (entry ∷ []) past))

asks_goes_on : (clear : Option ChipStop) (past : Past) (a : BusAnswer) (rest : Told) → GoesOn past rest.past → GoesOn past (asks clear past a rest).past
asks_goes_on None past a rest on = on
asks_goes_on (Some s) past a rest on = ([], refl)

happens_goes_on : (due : Bool) (past : Past) (rest : Told) → GoesOn past rest.past → GoesOn past (happens due past rest).past
happens_goes_on true past rest on = on
happens_goes_on false past rest on = ([], refl)

pub told_goes_on : (starts : Starts) (past : Past) (xs : List Step) → GoesOn past (told starts past xs).past
told_goes_on starts past [] = ([], refl)
told_goes_on starts past (Asks e ∷ more) =
    asks_goes_on (stop starts past e) past (answer starts past e) (told starts (answered starts past e) more)
    (one_more (Bus e (answer starts past e)) past _ (told_goes_on starts (answered starts past e) more))
told_goes_on starts past (Happens n what ∷ more) =
    happens_goes_on (fits starts past n what) past (told starts (Link n what ∷ past) more)
    (one_more (Link n what) past _ (told_goes_on starts (Link n what ∷ past) more))

-- A legal past goes on legally.
asks_legal : (starts : Starts) (past : Past) (e : BusEvent) (rest : Told) (clear : Option ChipStop) → stop starts past e ≡ clear → Legal starts past
    → (Legal starts (answered starts past e) → Legal starts rest.past) → Legal starts (asks clear past (answer starts past e) rest).past
asks_legal starts past e rest None is legal goes = goes ((is, refl), legal)
asks_legal starts past e rest (Some s) is legal goes = legal

happens_legal : (starts : Starts) (past : Past) (n : ℕ) (what : LinkEntry) (rest : Told) (due : Bool) → n < 8 → fits starts past n what ≡ due → Legal starts past
    → (Legal starts (Link n what ∷ past) → Legal starts rest.past) → Legal starts (happens due past rest).past
happens_legal starts past n what rest true below is legal goes = goes ((below, is), legal)
happens_legal starts past n what rest false below is legal goes = legal

pub told_legal : (starts : Starts) (past : Past) (xs : List Step) → Legal starts past
    → ((i n : ℕ) (what : LinkEntry) → slice_get xs i ≡ Some (Happens n what) → n < 8) → Legal starts (told starts past xs).past
told_legal starts past [] legal below = legal
told_legal starts past (Asks e ∷ more) legal below =
    asks_legal starts past e (told starts (answered starts past e) more) (stop starts past e) refl legal
    (λ goes. told_legal starts (answered starts past e) more goes (λ i n what at. below (suc i) n what at))
told_legal starts past (Happens n what ∷ more) legal below =
    happens_legal starts past n what (told starts (Link n what ∷ past) more) (fits starts past n what) (below zero n what refl) refl legal
    (λ goes. told_legal starts (Link n what ∷ past) more goes (λ i m other at. below (suc i) m other at))

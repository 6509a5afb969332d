-- Verdicts, entry by entry.
use Rattle.std.proofs.Common.{◌≡◌, ℕ, List, [], ◌∷◌, ◌++◌, append_assoc, Option, None, Some, Ok, Err, refl, sym, ap, ◌∙◌}
use Rattle.std.specs.Prelude.{IsSome, unwrap_or}
use Rattle.chip_sheet.specs.declared.event.Entry.{Entry}
use Rattle.chip_sheet.specs.declared.event.Entry.TheVariants.{Rest}
use Rattle.chip_sheet.specs.Past.{Past, GoesOn}
use Rattle.chip_sheet.specs.Streams.{Starts}
use Rattle.chip_sheet.specs.Legal.{Legal}
use Rattle.board_judge.specs.declared.end.JudgeFault.{JudgeFault}
use Rattle.board_judge.specs.declared.run.Halt.{Halt}
use Rattle.board_judge.specs.declared.run.Halt.TheVariants.{Broken, NoMemory}
use Rattle.board_judge.specs.Entries.{entry_read}
use Rattle.board_judge.specs.Judged.{Judged, breach, judged, verdict}
use Rattle.board_judge.specs.Run.{GivesEntry, GivesJudged, entry_of_line}

further : (o : Option JudgeFault) (past : Past) (entry : Entry) (others : Judged) → GoesOn (entry ∷ past) others.past → GoesOn past (verdict o past others).past
further (Some fault) past entry others on = ([], refl)
further None past entry others on = (on.0 ++ entry ∷ [], on.1 ∙ sym (append_assoc on.0 (entry ∷ []) past))

-- the history of a verdict goes on from what had happened
pub judged_goes_on : (starts : Starts) (past : Past) (entries : List Entry) → GoesOn past (judged starts past entries).past
judged_goes_on starts past [] = ([], refl)
judged_goes_on starts past (entry ∷ more) =
    further (breach starts past entry) past entry (judged starts (entry ∷ past) more) (judged_goes_on starts (entry ∷ past) more)

-- an entry that is allowed
pub judged_on : (starts : Starts) (whole : Judged) (past new : Past) (entry : Entry) (entries more : List Entry) → entries ≡ entry ∷ more → breach starts past entry ≡ None → new ≡ entry ∷ past
    → judged starts past entries ≡ whole → judged starts new more ≡ whole
judged_on starts whole past new entry entries more first clear added is =
    ap (λ (p : Past). judged starts p more) added
    ∙ sym (ap (λ (o : Option JudgeFault). verdict o past (judged starts (entry ∷ past) more)) clear)
    ∙ sym (ap (judged starts past) first)
    ∙ is

-- no entry is left
pub judged_whole : (starts : Starts) (whole : Judged) (past : Past) (entries : List Entry) (u : Unit {0}) → entries ≡ [] → judged starts past entries ≡ whole → GivesJudged whole (Ok u) past
judged_whole starts whole past entries u none is =
    let ends : record { past = past; fault = None } ≡ whole = sym (ap (judged starts past) none) ∙ is in (
      sym (ap (λ (it : Judged). it.fault) ends),
      ap (λ (it : Judged). it.past) ends,
    )

broken_here : (starts : Starts) (whole : Judged) (past : Past) (entry : Entry) (entries more : List Entry) (fault : JudgeFault) → entries ≡ entry ∷ more → breach starts past entry ≡ Some fault → judged starts past entries ≡ whole
    → record { past = past; fault = Some fault } ≡ whole
broken_here starts whole past entry entries more fault first broken is =
    sym (ap (λ (o : Option JudgeFault). verdict o past (judged starts (entry ∷ past) more)) broken)
    ∙ sym (ap (judged starts past) first)
    ∙ is

-- the next entry is not allowed, or memory is not there
pub judged_halts : (starts : Starts) (whole : Judged) (past new : Past) (entry : Entry) (entries more : List Entry) (halt : Halt) → entries ≡ entry ∷ more → GivesEntry starts past entry (Err halt) new
    → judged starts past entries ≡ whole → GivesJudged whole (Err halt) new
judged_halts starts whole past new entry entries more (Broken fault) first (broken, same) is =
    let ends = broken_here starts whole past entry entries more fault first broken is in (
      sym (ap (λ (it : Judged). it.fault) ends),
      same ∙ ap (λ (it : Judged). it.past) ends,
    )
judged_halts starts whole past new entry entries more NoMemory first same is =
    let on = judged_goes_on starts past entries in
    (on.0, sym (ap (λ (it : Judged). it.past) is) ∙ on.1 ∙ ap (λ (p : Past). on.0 ++ p) (sym same))

-- the history stays where the next entry is not added
pub legal_still : (starts : Starts) (past new : Past) (entry : Entry) (halt : Halt) → GivesEntry starts past entry (Err halt) new → Legal starts past → Legal starts new
legal_still starts past new entry (Broken fault) (broken, same) legal = rw same legal
legal_still starts past new entry NoMemory same legal = rw same legal

some_is : (o : Option Entry) → IsSome o → o ≡ Some (unwrap_or o Rest)
some_is None there = absurd (cc there)
some_is (Some entry) there = refl

-- a line that is read says its entry
pub there_is : (line : List ℕ) → IsSome (entry_read line) → entry_read line ≡ Some (entry_of_line line)
there_is line there = some_is (entry_read line) there

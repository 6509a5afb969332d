-- Lines that are run one after another.
use Rattle.std.proofs.Common.{◌≡◌, ◌≢◌, ℕ, ◌+◌, List, [], ◌∷◌, ◌++◌, append_assoc, append-nil, Option, refl, sym, ap, ◌∙◌, subst, arith}
use Rattle.chip_sheet.specs.declared.stop.ChipStop.{ChipStop}
use Rattle.chip_sheet.specs.Past.{Past, GoesOn}
use Rattle.chip_sheet.specs.Streams.{Starts}
use Rattle.chip_sheet.specs.Replay.{Step, Told, Ending, AllTaken, StoppedBy, NotDue, told}
use Rattle.board_gen.proofs.ToldLaws.{told_goes_on}
use Rattle.wz_base.specs.Lines.{Gathers}
use Rattle.wz_base.specs.Whole.{Appends, AppendsFront}
use Rattle.wz_base.proofs.Gathered.{appends_none, front_before, gathers_none, gathers_then, gathers_cut, gathers_front, gathers_stopped, gathers_written}
use Rattle.board_text.specs.Answers.{joined}
use Rattle.board_gen.specs.declared.fault.ScriptKind.TheVariants as kind
use Rattle.board_gen.specs.declared.end.ScriptStop.{ScriptStop}
use Rattle.board_gen.specs.declared.end.ScriptStop.TheVariants.{Done, Fault, Chip, WriteFault, NoMemory}
use Rattle.board_gen.specs.Shown.{Shown, line_shown, followed, one_shown, shown_from, IsFront, Shows}
use Rattle.board_gen.specs.Run.{ended, IsLine, IsEnded, IsGathered, Keeps}

-- a line at its end
is_ended : (n : ℕ) (it : Told) (ending : Ending) (end : ScriptStop) (past : Past) (text : List ℕ) → IsLine it ending past text → IsEnded (line_shown n it ending) end it.past (joined it.answers)
    → IsEnded (line_shown n it it.ending) end past text
is_ended n it ending end past text line whole =
    let same : line_shown n it it.ending ≡ line_shown n it ending = ap (line_shown n it) line.ends in
    record {
      ends = whole.ends ∙ sym (ap (λ (s : Shown). s.end) same);
      happened = line.happened ∙ whole.happened ∙ sym (ap (λ (s : Shown). s.past) same);
      printed = ap (λ (t : List ℕ). ended t end) line.printed ∙ whole.printed ∙ sym (ap (λ (s : Shown). s.text) same);
    }

pub ended_taken : (n : ℕ) (it : Told) (past : Past) (text : List ℕ) → IsLine it AllTaken past text → IsEnded (line_shown n it it.ending) Done past text
ended_taken n it past text line = is_ended n it AllTaken Done past text line (record { ends = refl; happened = refl; printed = refl })

pub ended_stopped : (n : ℕ) (it : Told) (s : ChipStop) (past : Past) (text : List ℕ) → IsLine it (StoppedBy s) past text → IsEnded (line_shown n it it.ending) (Chip s) past text
ended_stopped n it s past text line = is_ended n it (StoppedBy s) (Chip s) past text line (record { ends = refl; happened = refl; printed = refl })

pub ended_not_due : (n : ℕ) (it : Told) (past : Past) (text : List ℕ) → IsLine it NotDue past text
    → IsEnded (line_shown n it it.ending) (Fault (record { line = n; kind = kind.NotDue })) past text
ended_not_due n it past text line = is_ended n it NotDue (Fault (record { line = n; kind = kind.NotDue })) past text line (record { ends = refl; happened = refl; printed = refl })

shown_past : (n : ℕ) (it : Told) (ending : Ending) → (line_shown n it ending).past ≡ it.past
shown_past n it AllTaken = refl
shown_past n it (StoppedBy s) = refl
shown_past n it NotDue = refl

-- a line whose steps are not all taken for want of memory: nothing is written
nothing_written : (waiting text : List ℕ) (old : Option (List ℕ)) → AppendsFront old (waiting ++ text) old
nothing_written waiting text old = (0, omega arith, appends_none old)

pub kept_nothing : (n : ℕ) (it : Told) (past : Past) (waiting rest : List ℕ) (old : Option (List ℕ)) → GoesOn past it.past → Keeps (line_shown n it it.ending) NoMemory past waiting rest old old
kept_nothing n it past waiting rest old on =
    ((on.0, shown_past n it it.ending ∙ on.1), nothing_written waiting (line_shown n it it.ending).text old)

-- what is gathered of a line
keeps_gathered : (whole : Shown) (end : ScriptStop) (past : Past) (waiting rest : List ℕ) (old new : Option (List ℕ)) → IsGathered whole end past waiting rest old new → Keeps whole end past waiting rest old new
keeps_gathered whole Done past waiting rest old new it = it
keeps_gathered whole (Fault fault) past waiting rest old new it = it
keeps_gathered whole (Chip s) past waiting rest old new it = it
keeps_gathered whole WriteFault past waiting rest old new it = (([], sym it.happened), gathers_front waiting whole.text rest old new it.gathered)
keeps_gathered whole NoMemory past waiting rest old new it = (([], sym it.happened), gathers_front waiting whole.text rest old new it.gathered)

pub kept_added : (whole : Shown) (end : ScriptStop) (past : Past) (text line waiting rest : List ℕ) (old new : Option (List ℕ)) → IsEnded whole end past text → line ≡ ended text end → Gathers waiting line rest old new
    → Keeps whole end past waiting rest old new
kept_added whole end past text line waiting rest old new it is gathered =
    keeps_gathered whole end past waiting rest old new (record {
      ends = it.ends;
      happened = it.happened;
      gathered = subst (λ (t : List ℕ). Gathers waiting t rest old new) (is ∙ it.printed) gathered;
    })

-- a line that was not added
pub kept_cut : (whole : Shown) (end : ScriptStop) (past : Past) (text line waiting rest : List ℕ) (old new : Option (List ℕ)) → IsEnded whole end past text → line ≡ ended text end → AppendsFront old (waiting ++ line) new
    → Keeps whole WriteFault past waiting rest old new
kept_cut whole end past text line waiting rest old new it is front =
    (([], sym it.happened), subst (λ (t : List ℕ). AppendsFront old (waiting ++ t) new) (is ∙ it.printed) front)

pub kept_none : (whole : Shown) (end : ScriptStop) (past : Past) (text waiting rest : List ℕ) (old : Option (List ℕ)) → IsEnded whole end past text → Keeps whole NoMemory past waiting rest old old
kept_none whole end past text waiting rest old it = (([], sym it.happened), nothing_written waiting whole.text old)

-- what comes behind text that is written or waits already
abbrev pub text_behind : List ℕ → Shown → Shown
text_behind done rest = record { text = done ++ rest.text; past = rest.past; end = rest.end }

text_behind-both : (a b : List ℕ) (rest : Shown) → text_behind a (text_behind b rest) ≡ text_behind (a ++ b) rest
text_behind-both a b rest = ap (λ (t : List ℕ). record { text = t; past = rest.past; end = rest.end }) (sym (append_assoc a b rest.text))

-- some text is written or waits, and what is left makes the whole after it
pub record LinesSoFar (whole left : Shown) (waiting : List ℕ) (old now : Option (List ℕ)) : Type 0 where
  pub done : List ℕ
  pub gathered : Gathers [] done waiting old now
  pub so_far : text_behind done left ≡ whole

pub lines_none : (whole : Shown) (waiting : List ℕ) (old : Option (List ℕ)) → waiting ≡ [] → LinesSoFar whole whole waiting old old
lines_none whole waiting old none =
    record { done = []; gathered = subst (λ (w : List ℕ). Gathers [] [] w old old) (sym none) (gathers_none [] old); so_far = refl }

-- one line more is written or waits
pub lines_more : (whole : Shown) (starts : Starts) (past past' : Past) (n : ℕ) (steps : List Step) (more : List (List Step)) (waiting waiting' : List ℕ) (old mid new : Option (List ℕ))
    → Keeps (one_shown starts past n steps) Done past' waiting waiting' mid new → LinesSoFar whole (shown_from starts past n (steps ∷ more)) waiting old mid
    → LinesSoFar whole (shown_from starts past' (n + 1) more) waiting' old new
lines_more whole starts past past' n steps more waiting waiting' old mid new kept far =
    let line = one_shown starts past n steps in
    let rest : Past → Shown = λ p. shown_from starts p (n + 1) more in
    let goes : followed line line.end (rest line.past) ≡ text_behind line.text (rest past') =
    ap (λ (e : ScriptStop). followed line e (rest line.past)) (sym kept.ends) ∙ ap (λ (p : Past). text_behind line.text (rest p)) (sym kept.happened) in
    record {
      done = far.done ++ line.text;
      gathered = gathers_then [] far.done waiting line.text waiting' old mid new far.gathered kept.gathered;
      so_far = sym (text_behind-both far.done line.text (rest past')) ∙ ap (text_behind far.done) (sym goes) ∙ far.so_far;
    }

-- what lines come to goes on from what a first line comes to
line_goes_on : (starts : Starts) (past : Past) (n : ℕ) (steps : List Step) → GoesOn past (one_shown starts past n steps).past
line_goes_on starts past n steps =
    let it = told starts past steps in let on = told_goes_on starts past steps in (on.0, shown_past n it it.ending ∙ on.1)

goes_on_then : (a b c : Past) → GoesOn a b → GoesOn b c → GoesOn a c
goes_on_then a b c h k = (k.0 ++ h.0, k.1 ∙ ap (λ (p : Past). k.0 ++ p) h.1 ∙ sym (append_assoc k.0 h.0 a))

record Begins (line whole : Shown) : Type 0 where
  past : GoesOn line.past whole.past
  more : List ℕ
  text : line.text ++ more ≡ whole.text

begins : (line others : Shown) (e : ScriptStop) → GoesOn line.past others.past → Begins line (followed line e others)
begins line others Done on = record { past = on; more = others.text; text = refl }
begins line others (Fault fault) on = record { past = ([], refl); more = []; text = append-nil line.text }
begins line others (Chip s) on = record { past = ([], refl); more = []; text = append-nil line.text }
begins line others WriteFault on = record { past = ([], refl); more = []; text = append-nil line.text }
begins line others NoMemory on = record { past = ([], refl); more = []; text = append-nil line.text }

lines_go_on : (starts : Starts) (past : Past) (n : ℕ) (lines : List (List Step)) → GoesOn past (shown_from starts past n lines).past
lines_go_on starts past n [] = ([], refl)
lines_go_on starts past n (steps ∷ more) =
    let line = one_shown starts past n steps in
    let others = shown_from starts line.past (n + 1) more in
    goes_on_then past line.past _ (line_goes_on starts past n steps) (begins line others line.end (lines_go_on starts line.past (n + 1) more)).past

first_begins : (starts : Starts) (past : Past) (n : ℕ) (steps : List Step) (more : List (List Step)) → Begins (one_shown starts past n steps) (shown_from starts past n (steps ∷ more))
first_begins starts past n steps more =
    let line = one_shown starts past n steps in
    begins line (shown_from starts line.past (n + 1) more) line.end (lines_go_on starts line.past (n + 1) more)

-- a line that is cut short ends the run
front_of : (whole left line : Shown) (done : List ℕ) (past : Past) (waiting : List ℕ) (old mid new : Option (List ℕ)) → Begins line left → text_behind done left ≡ whole → Gathers [] done waiting old mid
    → GoesOn past line.past → AppendsFront mid (waiting ++ line.text) new → GoesOn past whole.past × AppendsFront old whole.text new
front_of whole left line done past waiting old mid new b so_far gathered on front =
    let text : (done ++ line.text) ++ b.more ≡ whole.text =
    append_assoc done line.text b.more ∙ ap (λ (t : List ℕ). done ++ t) b.text ∙ ap (λ (s : Shown). s.text) so_far in
    let happened = goes_on_then past line.past left.past on b.past in (
      (happened.0, sym (ap (λ (s : Shown). s.past) so_far) ∙ happened.1),
      subst (λ (t : List ℕ). AppendsFront old t new) text (front_before old new (done ++ line.text) b.more (gathers_cut [] done waiting line.text old mid new gathered front)),
    )

-- a line that does not come to its end is the last
last_line : (line others : Shown) (end : ScriptStop) → end ≢ Done → followed line end others ≡ line
last_line line others Done not = absurd (not refl)
last_line line others (Fault fault) not = refl
last_line line others (Chip s) not = refl
last_line line others WriteFault not = refl
last_line line others NoMemory not = refl

last_kept : (whole : Shown) (starts : Starts) (past past' : Past) (n : ℕ) (steps : List Step) (more : List (List Step)) (end : ScriptStop) (waiting waiting' : List ℕ) (old mid new : Option (List ℕ)) → end ≢ Done
    → IsGathered (one_shown starts past n steps) end past' waiting waiting' mid new → LinesSoFar whole (shown_from starts past n (steps ∷ more)) waiting old mid → IsGathered whole end past' [] waiting' old new
last_kept whole starts past past' n steps more end waiting waiting' old mid new not kept far =
    let line = one_shown starts past n steps in
    let others = shown_from starts line.past (n + 1) more in
    let goes : text_behind far.done line ≡ whole =
    ap (text_behind far.done) (sym (ap (λ (e : ScriptStop). followed line e others) (sym kept.ends) ∙ last_line line others end not)) ∙ far.so_far in
    record {
      ends = kept.ends ∙ ap (λ (s : Shown). s.end) goes;
      happened = kept.happened ∙ ap (λ (s : Shown). s.past) goes;
      gathered = subst (λ (t : List ℕ). Gathers [] t waiting' old new) (ap (λ (s : Shown). s.text) goes) (gathers_then [] far.done waiting line.text waiting' old mid new far.gathered kept.gathered);
    }

pub lines_halt : (whole : Shown) (starts : Starts) (past past' : Past) (n : ℕ) (steps : List Step) (more : List (List Step)) (end : ScriptStop) (waiting waiting' : List ℕ) (old mid new : Option (List ℕ)) → end ≢ Done
    → Keeps (one_shown starts past n steps) end past' waiting waiting' mid new → LinesSoFar whole (shown_from starts past n (steps ∷ more)) waiting old mid → Keeps whole end past' [] waiting' old new
lines_halt whole starts past past' n steps more Done waiting waiting' old mid new not kept far = absurd (not refl)
lines_halt whole starts past past' n steps more (Fault fault) waiting waiting' old mid new not kept far = last_kept whole starts past past' n steps more (Fault fault) waiting waiting' old mid new not kept far
lines_halt whole starts past past' n steps more (Chip s) waiting waiting' old mid new not kept far = last_kept whole starts past past' n steps more (Chip s) waiting waiting' old mid new not kept far
lines_halt whole starts past past' n steps more WriteFault waiting waiting' old mid new not kept far =
    front_of whole (shown_from starts past n (steps ∷ more)) (one_shown starts past n steps) far.done past' waiting old mid new (first_begins starts past n steps more) far.so_far far.gathered kept.0 kept.1
lines_halt whole starts past past' n steps more NoMemory waiting waiting' old mid new not kept far =
    front_of whole (shown_from starts past n (steps ∷ more)) (one_shown starts past n steps) far.done past' waiting old mid new (first_begins starts past n steps more) far.so_far far.gathered kept.0 kept.1

-- no line is left
pub lines_end : (whole : Shown) (starts : Starts) (past : Past) (n : ℕ) (lines : List (List Step)) (waiting : List ℕ) (old now : Option (List ℕ)) → lines ≡ [] → LinesSoFar whole (shown_from starts past n lines) waiting old now
    → Keeps whole Done past [] waiting old now
lines_end whole starts past n lines waiting old now none far =
    let goes : text_behind far.done (shown_from starts past n []) ≡ whole = ap (λ (left : List (List Step)). text_behind far.done (shown_from starts past n left)) (sym none) ∙ far.so_far in
    record {
      ends = ap (λ (s : Shown). s.end) goes;
      happened = ap (λ (s : Shown). s.past) goes;
      gathered = subst (λ (t : List ℕ). Gathers [] t waiting old now) (sym (append-nil far.done) ∙ ap (λ (s : Shown). s.text) goes) far.gathered;
    }

-- what waits at the end is written
whole_shown : (whole : Shown) (end : ScriptStop) (past : Past) (waiting : List ℕ) (old mid new : Option (List ℕ)) → IsGathered whole end past [] waiting old mid → Appends mid waiting new
    → (end ≡ whole.end) × (past ≡ whole.past) × Appends old whole.text new
whole_shown whole end past waiting old mid new it written =
    (it.ends, it.happened, gathers_written [] whole.text waiting old mid new it.gathered written)

pub all_shown : (whole : Shown) (end : ScriptStop) (past : Past) (waiting : List ℕ) (old mid new : Option (List ℕ)) → end ≢ WriteFault → end ≢ NoMemory → Keeps whole end past [] waiting old mid → Appends mid waiting new
    → Shows whole end past old new
all_shown whole Done past waiting old mid new a b kept written = whole_shown whole Done past waiting old mid new kept written
all_shown whole (Fault fault) past waiting old mid new a b kept written = whole_shown whole (Fault fault) past waiting old mid new kept written
all_shown whole (Chip s) past waiting old mid new a b kept written = whole_shown whole (Chip s) past waiting old mid new kept written
all_shown whole WriteFault past waiting old mid new a b kept written = absurd (a refl)
all_shown whole NoMemory past waiting old mid new a b kept written = absurd (b refl)

cut_shown : (whole : Shown) (end : ScriptStop) (past : Past) (waiting : List ℕ) (old mid new : Option (List ℕ)) → IsGathered whole end past [] waiting old mid → AppendsFront mid waiting new → IsFront whole past old new
cut_shown whole end past waiting old mid new it front =
    (([], sym it.happened), gathers_stopped [] whole.text waiting old mid new it.gathered front)

pub end_shown : (whole : Shown) (end : ScriptStop) (past : Past) (waiting : List ℕ) (old mid new : Option (List ℕ)) → end ≢ WriteFault → end ≢ NoMemory → Keeps whole end past [] waiting old mid → AppendsFront mid waiting new
    → IsFront whole past old new
end_shown whole Done past waiting old mid new a b kept front = cut_shown whole Done past waiting old mid new kept front
end_shown whole (Fault fault) past waiting old mid new a b kept front = cut_shown whole (Fault fault) past waiting old mid new kept front
end_shown whole (Chip s) past waiting old mid new a b kept front = cut_shown whole (Chip s) past waiting old mid new kept front
end_shown whole WriteFault past waiting old mid new a b kept front = absurd (a refl)
end_shown whole NoMemory past waiting old mid new a b kept front = absurd (b refl)

-- the first of the lines that are left
pub far_on : (whole : Shown) (starts : Starts) (past : Past) (n : ℕ) (lines : List (List Step)) (steps : List Step) (more : List (List Step)) (waiting : List ℕ) (old now : Option (List ℕ)) → lines ≡ steps ∷ more
    → LinesSoFar whole (shown_from starts past n lines) waiting old now → LinesSoFar whole (shown_from starts past n (steps ∷ more)) waiting old now
far_on whole starts past n lines steps more waiting old now first far =
    subst (λ (ls : List (List Step)). LinesSoFar whole (shown_from starts past n ls) waiting old now) first far

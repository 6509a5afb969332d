-- Traces that are written, read and judged.
use Rattle.std.proofs.Common.{arith, ◌≡◌, ◌<◌, ◌^◌, ◌+◌, ℕ, not, List, [], ◌∷◌, ◌++◌, append_assoc, append-nil, map, reverse, Some, Ok, refl, sym, ap, ◌∙◌}
use Rattle.std.specs.Prelude.{codes}
use Rattle.std.specs.Fmt.{decimal}
use Rattle.std.proofs.lemmas.Bool.{ne_eqb}
use Rattle.std.proofs.lemmas.List.{reverse-append}
use Rattle.chip_sheet.specs.declared.event.Entry.{Entry}
use Rattle.chip_sheet.specs.Past.{Past}
use Rattle.chip_sheet.specs.Streams.{Starts}
use Rattle.chip_sheet.specs.Legal.{Legal}
use Rattle.board_text.specs.Entries.{entries_text, entry_text, trace_head}
use Rattle.board_gen.specs.EachLine.{line_found, with_line}
use Rattle.board_judge.specs.Entries.{entry_read}
use Rattle.board_judge.specs.Judged.{judged}
use Rattle.board_judge.specs.Shown.{shown_of, told}
use Rattle.board_judge.specs.Trace.{entries_from, head, headed, of_lines, pointers, trace_lines, traced, two_numbers}
use Rattle.board_judge.proofs.Wrongs.{legal_judged}
use Rattle.trace_laws.specs.Fitting.{AllFit, StartsFit}
use Rattle.trace_laws.specs.Laws.{TracesAreLegal, TracesAreRead}
use Rattle.trace_laws.proofs.Passing.{Passes, other, passes_both, passes_then, split_first, split_free}
use Rattle.trace_laws.proofs.Decimals.{decimal_passes, written_back}
use Rattle.trace_laws.proofs.Entries.{entry_back, entry_plain, plain, text_plain}
use Rattle.trace_laws.proofs.Lines.{AllPlain, line_first, lines_back}

-- each entry is read again
EachRead : List Entry → Type 0
EachRead [] = Unit {0}
EachRead (entry ∷ more) = (entry_read (entry_text entry) ≡ Some entry) × EachRead more

read_last : (entries : List Entry) (entry : Entry) → EachRead entries → entry_read (entry_text entry) ≡ Some entry → EachRead (entries ++ entry ∷ [])
unfolding EachRead
read_last [] entry all is = (is, tt)
read_last (first ∷ more) entry (one, all) is = (one, read_last more entry all is)

each_read : (starts : Starts) (past : Past) → AllFit past → Legal starts past → EachRead (reverse past)
unfolding EachRead
each_read starts [] fit legal = tt
each_read starts (entry ∷ past) (fits, fit) (allowed, legal) =
    rw (reverse-append (entry ∷ []) past) (read_last (reverse past) entry (each_read starts past fit legal) (entry_back starts past entry allowed fits))

all_plain : (starts : Starts) (past : Past) → AllFit past → Legal starts past → AllPlain past
all_plain starts [] fit legal = tt
all_plain starts (entry ∷ past) (fits, fit) (allowed, legal) = (entry_plain starts past entry allowed fits, all_plain starts past fit legal)

entries_back : (n : ℕ) (entries : List Entry) → EachRead entries → entries_from n (map entry_text entries) ≡ Ok entries
unfolding EachRead
entries_back n [] all = refl
entries_back n (entry ∷ more) (one, all) = λ i. with_line (line_found n (one i)) (entries_back (n + 1) more all i)

-- the first line without its line feed
first_of : Starts → List ℕ
first_of starts = codes "w5500 trace 1 " ++ (decimal starts.tx ++ 32 ∷ decimal starts.rx)

regroup : (v a b e : List ℕ) → (v ++ (a ++ 32 ∷ (b ++ 10 ∷ []))) ++ e ≡ (v ++ (a ++ 32 ∷ b)) ++ 10 ∷ e
regroup v a b e =
    append_assoc v (a ++ 32 ∷ (b ++ 10 ∷ [])) e
    ∙ ap (λ (t : List ℕ). v ++ t) (append_assoc a (32 ∷ (b ++ 10 ∷ [])) e ∙ ap (λ (t : List ℕ). a ++ 32 ∷ t) (append_assoc b (10 ∷ []) e))
    ∙ sym (append_assoc v (a ++ 32 ∷ b) (10 ∷ e) ∙ ap (λ (t : List ℕ). v ++ t) (append_assoc a (32 ∷ b) (10 ∷ e)))

no_space : (n : ℕ) → n < 2 ^ 16 → Passes (other 32) (decimal n)
no_space n small = decimal_passes (other 32) n (omega (arith, small)) (λ c low high. ap not (ne_eqb c 32 (λ e. omega (arith, low, e))))

head_back : (starts : Starts) → StartsFit starts → head (first_of starts) ≡ Some starts
unfolding first_of
head_back starts (tx, rx) =
    ap two_numbers (split_first 32 (decimal starts.tx) (decimal starts.rx) (no_space starts.tx tx) ∙ ap (λ (ls : List (List ℕ)). decimal starts.tx ∷ ls) (split_free 32 (decimal starts.rx) (no_space starts.rx rx)))
    ∙ (λ i. pointers (written_back 65535 starts.tx (omega (arith, tx)) (omega (arith, tx)) i) (written_back 65535 starts.rx (omega (arith, rx)) (omega (arith, rx)) i))

head_plain : (starts : Starts) → StartsFit starts → Passes plain (first_of starts)
unfolding first_of
head_plain starts (tx, rx) =
    let pass : (n : ℕ) → n < 2 ^ 16 → Passes plain (decimal n) = λ n small. decimal_passes plain n (omega (arith, small)) text_plain.digits in
    passes_both plain (codes "w5500 trace 1 ") (decimal starts.tx ++ 32 ∷ decimal starts.rx) refl
    (passes_both plain (decimal starts.tx) (32 ∷ decimal starts.rx) (pass starts.tx tx) (passes_then plain 32 (decimal starts.rx) refl (pass starts.rx rx)))

lines_are : (starts : Starts) (past : Past) → StartsFit starts → AllFit past → Legal starts past → trace_lines (trace_head starts ++ entries_text past) ≡ first_of starts ∷ map entry_text (reverse past)
unfolding first_of
lines_are starts past fits fit legal =
    ap trace_lines (regroup (codes "w5500 trace 1 ") (decimal starts.tx) (decimal starts.rx) (entries_text past))
    ∙ line_first (first_of starts) (entries_text past) (head_plain starts fits)
    ∙ ap (λ (ls : List (List ℕ)). first_of starts ∷ ls)
    (ap trace_lines (sym (append-nil (entries_text past))) ∙ lines_back past [] (all_plain starts past fit legal) ∙ append-nil (map entry_text (reverse past)))

pub traces_are_read : TracesAreRead
traces_are_read starts past fits fit legal =
    ap of_lines (lines_are starts past fits fit legal)
    ∙ (λ i. headed (head_back starts fits i) (map entry_text (reverse past)))
    ∙ ap (traced starts) (entries_back 2 (reverse past) (each_read starts past fit legal))

pub traces_are_legal : TracesAreLegal
traces_are_legal starts past fits fit legal =
    ap shown_of (traces_are_read starts past fits fit legal)
    ∙ ap told (ap (judged starts []) (sym (append-nil (reverse past))) ∙ legal_judged starts past [] legal)

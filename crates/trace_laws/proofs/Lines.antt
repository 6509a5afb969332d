-- The lines of a trace that is written.
use Rattle.std.proofs.Common.{arith, ◌≡◌, ◌<◌, ◌-◌, ℕ, true, not, List, [], ◌∷◌, ◌++◌, append_assoc, cond, length, map, reverse, take, refl, sym, ap, ◌∙◌}
use Rattle.std.specs.Prelude.{slice_index}
use Rattle.std.specs.List.{list_all}
use Rattle.std.specs.Str.Lines.{strip_carriage_return}
use Rattle.std.proofs.lemmas.Bool.{ltb-true, ne_eqb}
use Rattle.std.proofs.lemmas.List.{map-append, reverse-append}
use Rattle.std.proofs.lemmas.List.Sums.{AllPass-from_list_all}
use Rattle.chip_sheet.specs.Past.{Past}
use Rattle.board_text.specs.Entries.{entries_text, entry_line, entry_text}
use Rattle.board_judge.specs.Trace.{trace_lines}
use Rattle.board_judge.proofs.FirstLine.{line_cut}
use Rattle.trace_laws.proofs.Passing.{Passes, both, other, passes_then, split_first}
use Rattle.trace_laws.proofs.Entries.{plain}

past_ends : (x : ℕ) → plain x ≡ true → 13 < x
past_ends x is = ltb-true 13 x is

-- no line feed stands in it
no_end : (xs : List ℕ) → Passes plain xs → Passes (other 10) xs
no_end [] all = refl
no_end (x ∷ xs) all =
    let k = both (plain x) (list_all plain xs) all in
    let big = past_ends x k.0 in passes_then (other 10) x xs (ap not (ne_eqb x 10 (λ e. omega (arith, big, e)))) (no_end xs k.1)

last_plain : (x : ℕ) (xs : List ℕ) → Passes plain (x ∷ xs) → 13 < slice_index (x ∷ xs) (length (x ∷ xs) - 1)
last_plain x xs all = past_ends _ (AllPass-from_list_all plain (x ∷ xs) all (length (x ∷ xs) - 1) 0 (omega arith))

-- nor a carriage return at its end
kept : (xs : List ℕ) → Passes plain xs → strip_carriage_return xs ≡ xs
kept [] all = refl
kept (x ∷ xs) all =
    let big = last_plain x xs all in
    ap (λ b. cond b (take (length (x ∷ xs) - 1) (x ∷ xs)) (x ∷ xs)) (ne_eqb (slice_index (x ∷ xs) (length (x ∷ xs) - 1)) 13 (λ e. omega (arith, big, e)))

-- a line before others
pub line_first : (line rest : List ℕ) → Passes plain line → trace_lines (line ++ 10 ∷ rest) ≡ line ∷ trace_lines rest
line_first line rest all =
    line_cut (line ++ 10 ∷ rest) line rest (split_first 10 line rest (no_end line all)) ∙ ap (λ (l : List ℕ). l ∷ trace_lines rest) (kept line all)

-- the text of each entry is one line
abbrev pub AllPlain : Past → Type 0
AllPlain [] = Unit {0}
AllPlain (entry ∷ past) = Passes plain (entry_text entry) × AllPlain past

-- the lines of entries
pub lines_back : (past : Past) (rest : List ℕ) → AllPlain past → trace_lines (entries_text past ++ rest) ≡ map entry_text (reverse past) ++ trace_lines rest
lines_back [] rest all = refl
lines_back (entry ∷ past) rest (one, all) =
    let line = entry_text entry in
    ap trace_lines (append_assoc (entries_text past) (entry_line entry) rest ∙ ap (λ (t : List ℕ). entries_text past ++ t) (append_assoc line (10 ∷ []) rest))
    ∙ lines_back past (line ++ 10 ∷ rest) all
    ∙ ap (λ (ls : List (List ℕ)). map entry_text (reverse past) ++ ls) (line_first line rest one)
    ∙ sym (append_assoc (map entry_text (reverse past)) (line ∷ []) (trace_lines rest))
    ∙ ap (λ (ls : List (List ℕ)). ls ++ trace_lines rest) (sym (ap (map entry_text) (reverse-append (entry ∷ []) past) ∙ map-append entry_text (reverse past) (entry ∷ [])))

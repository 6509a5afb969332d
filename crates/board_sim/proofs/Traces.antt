-- A trace that is written line by line.
use Rattle.std.proofs.Common.{◌≡◌, ℕ, ◌+◌, ◌≤◌, List, [], ◌∷◌, ◌++◌, length, take, drop, reverse, slice_get, Option, Some, Result, Ok, Err, OnErr, refl, sym, ap, ◌∙◌, append_assoc}
use Rattle.std.specs.List.{flat_map}
use Rattle.std.proofs.lemmas.List.{length-reverse, take_all, take-append-drop}
use Rattle.std.proofs.lemmas.Grind.{flat_map-append}
use Rattle.wz_base.specs.Whole.{Appends, AppendsFront}
use Rattle.wz_base.specs.Lines.{Gathers}
use Rattle.wz_base.proofs.Gathered.{front_before, gathers_cut, gathers_none, gathers_stopped, gathers_then, gathers_written}
use Rattle.chip_sheet.specs.declared.event.Entry.{Entry}
use Rattle.chip_sheet.specs.Past.{Past}
use Rattle.chip_sheet.specs.Streams.{Starts}
use Rattle.board_text.specs.Entries.{entries_text, entry_line, trace_head}
use Rattle.board_sim.specs.Traced.{trace_text}
use Rattle.board_sim.proofs.Walks.{flat_got, flat_more, reverse_more}

-- the lines of what happened, the oldest first
pub lines_of : (past : Past) → flat_map entry_line (reverse past) ≡ entries_text past
lines_of [] = refl
lines_of (entry ∷ past) =
    ap (flat_map entry_line) (reverse_more entry past) ∙ flat_more entry_line (reverse past) entry ∙ ap (λ (t : List ℕ). t ++ entry_line entry) (lines_of past)

-- no line waits yet
pub traced_none : (waiting : List ℕ) (past : Past) (old : Option (List ℕ)) → Gathers waiting (flat_map entry_line (take 0 (reverse past))) waiting old old
traced_none waiting past old = gathers_none waiting old

-- one more line
pub traced_more : (waiting mid_waiting rest : List ℕ) (past : Past) (i : ℕ) (entry : Entry) (old mid new : Option (List ℕ)) → slice_get (reverse past) i ≡ Some entry
    → Gathers waiting (flat_map entry_line (take i (reverse past))) mid_waiting old mid → Gathers mid_waiting (entry_line entry) rest mid new
    → Gathers waiting (flat_map entry_line (take (i + 1) (reverse past))) rest old new
traced_more waiting mid_waiting rest past i entry old mid new at first second =
    rw (flat_got entry_line (reverse past) i entry at) (gathers_then waiting (flat_map entry_line (take i (reverse past))) mid_waiting (entry_line entry) rest old mid new first second)

-- all lines
pub traced_all : (waiting rest : List ℕ) (past : Past) (i : ℕ) (old new : Option (List ℕ)) → length past ≤ i
    → Gathers waiting (flat_map entry_line (take i (reverse past))) rest old new → Gathers waiting (entries_text past) rest old new
traced_all waiting rest past i old new all so_far =
    let whole : length (reverse past) ≤ i = rw length-reverse all in
    let lines : flat_map entry_line (take i (reverse past)) ≡ entries_text past = ap (flat_map entry_line) (take_all i (reverse past) whole) ∙ lines_of past in
    rw lines at so_far

-- the lines up to an entry, and the others
split_at : (past : Past) (i : ℕ) (entry : Entry) → slice_get (reverse past) i ≡ Some entry
    → (flat_map entry_line (take i (reverse past)) ++ entry_line entry) ++ flat_map entry_line (drop (i + 1) (reverse past)) ≡ entries_text past
split_at past i entry at =
    ap (λ (t : List ℕ). t ++ flat_map entry_line (drop (i + 1) (reverse past))) (sym (flat_got entry_line (reverse past) i entry at))
    ∙ sym (flat_map-append entry_line (take (i + 1) (reverse past)) (drop (i + 1) (reverse past)))
    ∙ ap (flat_map entry_line) (take-append-drop (i + 1) (reverse past)) ∙ lines_of past

-- a line is cut short
pub traced_cut : (waiting mid_waiting : List ℕ) (past : Past) (i : ℕ) (entry : Entry) (old mid new : Option (List ℕ)) → slice_get (reverse past) i ≡ Some entry
    → Gathers waiting (flat_map entry_line (take i (reverse past))) mid_waiting old mid → AppendsFront mid (mid_waiting ++ entry_line entry) new
    → AppendsFront old (waiting ++ entries_text past) new
traced_cut waiting mid_waiting past i entry old mid new at first last =
    let before = flat_map entry_line (take i (reverse past)) in
    let behind = flat_map entry_line (drop (i + 1) (reverse past)) in
    let front : AppendsFront old (((waiting ++ before) ++ entry_line entry) ++ behind) new =
    front_before old new ((waiting ++ before) ++ entry_line entry) behind (gathers_cut waiting before mid_waiting (entry_line entry) old mid new first last) in
    let whole : ((waiting ++ before) ++ entry_line entry) ++ behind ≡ waiting ++ entries_text past =
    ap (λ (t : List ℕ). t ++ behind) (append_assoc waiting before (entry_line entry)) ∙ append_assoc waiting (before ++ entry_line entry) behind
    ∙ ap (λ (t : List ℕ). waiting ++ t) (split_at past i entry at) in
    rw whole at front

-- a fact holds of the error, if there is one
pub on_any : {T E : Type 0} {P : Type 0} (r : Result T E) → P → OnErr r P
on_any (Ok v) h = tt
on_any (Err e) h = h

-- the head and the lines
head_and_lines : (starts : Starts) (past : Past) (waiting head : List ℕ) → waiting ≡ [] → head ≡ trace_head starts → (waiting ++ head) ++ entries_text past ≡ trace_text starts past
unfolding trace_text
head_and_lines starts past waiting head none is =
    ap (λ (w : List ℕ). (w ++ head) ++ entries_text past) none ∙ ap (λ (h : List ℕ). h ++ entries_text past) is

-- the head is cut short
pub trace_cut_head : (starts : Starts) (past : Past) (waiting head : List ℕ) (old new : Option (List ℕ)) → waiting ≡ [] → head ≡ trace_head starts
    → AppendsFront old (waiting ++ head) new → AppendsFront old (trace_text starts past) new
trace_cut_head starts past waiting head old new none is cut =
    let front : AppendsFront old ((waiting ++ head) ++ entries_text past) new = front_before old new (waiting ++ head) (entries_text past) cut in
    rw (head_and_lines starts past waiting head none is) at front

-- the lines are cut short
pub trace_cut_lines : (starts : Starts) (past : Past) (waiting head rest : List ℕ) (old mid new : Option (List ℕ)) → waiting ≡ [] → head ≡ trace_head starts
    → Gathers waiting head rest old mid → AppendsFront mid (rest ++ entries_text past) new → AppendsFront old (trace_text starts past) new
trace_cut_lines starts past waiting head rest old mid new none is first cut =
    let front : AppendsFront old ((waiting ++ head) ++ entries_text past) new = gathers_cut waiting head rest (entries_text past) old mid new first cut in
    rw (head_and_lines starts past waiting head none is) at front

-- what waits of both
both_wait : (starts : Starts) (past : Past) (waiting head rest last : List ℕ) (old mid late : Option (List ℕ)) → waiting ≡ [] → head ≡ trace_head starts
    → Gathers waiting head rest old mid → Gathers rest (entries_text past) last mid late → Gathers [] (trace_text starts past) last old late
unfolding trace_text
both_wait starts past waiting head rest last old mid late none is first second =
    let all : Gathers waiting (head ++ entries_text past) last old late = gathers_then waiting head rest (entries_text past) last old mid late first second in
    rw (none, is) at all

-- what waits at the end is cut short
pub trace_cut_end : (starts : Starts) (past : Past) (waiting head rest last : List ℕ) (old mid late new : Option (List ℕ)) → waiting ≡ [] → head ≡ trace_head starts
    → Gathers waiting head rest old mid → Gathers rest (entries_text past) last mid late → AppendsFront late last new → AppendsFront old (trace_text starts past) new
trace_cut_end starts past waiting head rest last old mid late new none is first second cut =
    gathers_stopped [] (trace_text starts past) last old late new (both_wait starts past waiting head rest last old mid late none is first second) cut

-- all is written
pub trace_whole : (starts : Starts) (past : Past) (waiting head rest last : List ℕ) (old mid late new : Option (List ℕ)) → waiting ≡ [] → head ≡ trace_head starts
    → Gathers waiting head rest old mid → Gathers rest (entries_text past) last mid late → Appends late last new → Appends old (trace_text starts past) new
trace_whole starts past waiting head rest last old mid late new none is first second written =
    gathers_written [] (trace_text starts past) last old late new (both_wait starts past waiting head rest last old mid late none is first second) written

-- The first line of a text.
use Rattle.std.proofs.Common.{◌≡◌, ℕ, ◌+◌, ◌-◌, ◌<◌, ◌≤◌, Bool, false, cond, eqb, ltb, List, [], ◌∷◌, ◌++◌, length, get_or, take, drop, Some, None, refl, sym, ap, ◌∙◌, arith}
use Rattle.std.proofs.lemmas.List.{take-append-drop, drop_more, get_or-take, length-take, take_rest}
use Rattle.std.proofs.lemmas.List.Sums.{fails_before_first}
use Rattle.std.proofs.lemmas.List.Quantifiers.{position-Some}
use Rattle.std.proofs.lemmas.List.Splits.{slice_split_at, slice_split_none, length-slice_split}
use Rattle.std.proofs.lemmas.Grind.{common_steps}
use Rattle.std.specs.List.{position, position_or_len, slice_split, All}
use Rattle.std.specs.Str.Lines.{lines, lines_of_parts, strip_carriage_return}

abbrev is_feed : ℕ → Bool
is_feed b = eqb b 10

more_parts : (x : List ℕ) (parts : List (List ℕ)) → 0 < length parts → lines_of_parts (x ∷ parts) ≡ strip_carriage_return x ∷ lines_of_parts parts
more_parts x [] l = absurd (omega arith)
more_parts x (y ∷ more) l = refl

-- up to the first line feed
pub line_cut : (text : List ℕ) (i : ℕ) → position (λ b. eqb b 10) text ≡ Some i → lines text ≡ strip_carriage_return (take i text) ∷ lines (drop (i + 1) text)
line_cut text i at =
    let found = position-Some is_feed text i 0 at in
    let front : All (λ b. is_feed b ≡ false) (take i text) = λ k e m.
    let near : k < i = omega (arith, m, length-take i text) in
    rw (get_or-take i text k e near) ((position-Some is_feed text i e at).2 k near) in
    ap lines (sym (take-append-drop i text) ∙ ap (λ (rest : List ℕ). take i text ++ rest) (drop_more text i 0 found.0))
    ∙ ap lines_of_parts (slice_split_at is_feed (take i text) (get_or text i 0) (drop (i + 1) text) front found.1)
    ∙ more_parts (take i text) (slice_split is_feed (drop (i + 1) text)) (omega (arith, length-slice_split is_feed (drop (i + 1) text)))

-- the first line, where a line feed ends it
pub first_cut : (text x : List ℕ) (i : ℕ) → Some i ≡ position (λ b. eqb b 10) text → x ≡ strip_carriage_return (take i text) → lines text ≡ x ∷ lines (take (length text - (i + 1)) (drop (i + 1) text))
first_cut text x i at is =
    line_cut text i (sym at)
    ∙ ap (λ (l : List ℕ). l ∷ lines (drop (i + 1) text)) (sym is)
    ∙ ap (λ (rest : List ℕ). x ∷ lines rest) (sym (take_rest text (i + 1)))

one_part : (x : List ℕ) → 0 < length x → lines_of_parts (x ∷ []) ≡ x ∷ []
one_part [] some = absurd (omega (arith, some))
one_part (b ∷ more) some = let e : eqb (length (b ∷ more)) 0 ≡ false = grind arith in rw e refl

last_place : (n m : ℕ) → cond (ltb n m) (Some n) None ≡ None → m ≤ n
last_place n m none = grind (arith, common_steps, none)

-- the last line, which no line feed ends
pub last_cut : (text : List ℕ) → 0 < length text → None ≡ position (λ b. eqb b 10) text → lines text ≡ text ∷ lines (take (length text - length text) (drop (length text) text))
last_cut text some none =
    let far : length text ≤ position_or_len is_feed text = last_place (position_or_len is_feed text) (length text) (sym none) in
    let front : All (λ b. is_feed b ≡ false) text = λ k e m. fails_before_first is_feed text k e (omega (arith, far, m)) in
    let e : length text - length text ≡ 0 = omega arith in
    ap lines_of_parts (slice_split_none is_feed text front)
    ∙ one_part text some
    ∙ ap (λ (n : ℕ). text ∷ lines (take n (drop (length text) text))) (sym e)

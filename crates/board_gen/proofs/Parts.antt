-- The first line of a text.
use Rattle.std.proofs.Common.{◌≡◌, ◌≤◌, ◌==◌, ℕ, List, [], ◌∷◌, length, map, refl, ap, ◌∙◌, arith}
use Rattle.std.specs.List.{slice_split}
use Rattle.std.specs.Str.Lines.{lines_of_parts, strip_carriage_return}
use Rattle.std.proofs.lemmas.List.{length-map}
use Rattle.std.proofs.lemmas.List.Splits.{length-slice_split}
use Rattle.board_gen.specs.Script.{uncommented, script_lines}

-- a part that ended with a line feed
pub lines_first : (part : List ℕ) (parts : List (List ℕ)) → 1 ≤ length parts → lines_of_parts (part ∷ parts) ≡ strip_carriage_return part ∷ lines_of_parts parts
lines_first part [] some = absurd (omega (arith, some))
lines_first part (next ∷ more) some = refl

pub line_cut : (text part rest : List ℕ) → slice_split (λ b. b == 10) text ≡ part ∷ slice_split (λ b. b == 10) rest
    → script_lines text ≡ strip_carriage_return (uncommented part) ∷ script_lines rest
line_cut text part rest parts =
    let others = map uncommented (slice_split (λ b. b == 10) rest) in
    ap (λ (all : List (List ℕ)). lines_of_parts (map uncommented all)) parts
    ∙ lines_first (uncommented part) others (simp length-map (omega (arith, length-slice_split (λ b. b == 10) rest)))

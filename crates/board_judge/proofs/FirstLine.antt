-- A text, cut at its first line feed.
use Rattle.std.proofs.Common.{◌≡◌, ◌==◌, ℕ, List, ◌∷◌, ap, ◌∙◌, arith}
use Rattle.std.specs.List.{slice_split}
use Rattle.std.specs.Str.Lines.{lines_of_parts, strip_carriage_return}
use Rattle.std.proofs.lemmas.List.Splits.{length-slice_split}
use Rattle.board_gen.proofs.Parts.{lines_first}
use Rattle.board_judge.specs.Trace.{trace_lines}

pub line_cut : (text part rest : List ℕ) → slice_split (λ b. b == 10) text ≡ part ∷ slice_split (λ b. b == 10) rest → trace_lines text ≡ strip_carriage_return part ∷ trace_lines rest
line_cut text part rest parts =
    ap lines_of_parts parts ∙ lines_first part (slice_split (λ b. b == 10) rest) (omega (arith, length-slice_split (λ b. b == 10) rest))

-- Texts of more parts than an address has.
use Rattle.std.proofs.Common.{arith, ◌≡◌, ◌==◌, ◌≤◌, ℕ, List, [], ◌∷◌, length, None, refl, ap, ◌∙◌}
use Rattle.std.specs.List.{slice_split}
use Rattle.std.proofs.lemmas.List.Splits.{length-slice_split}
use Rattle.board_read.specs.Numbers.{four_bytes}

many : (a b c d : List ℕ) (parts : List (List ℕ)) → 1 ≤ length parts → four_bytes (a ∷ b ∷ c ∷ d ∷ parts) ≡ None
many a b c d [] some = absurd (omega (arith, some))
many a b c d (part ∷ parts) some = refl

-- a fourth dot
pub five_parts : (a b c d rest more : List ℕ) → slice_split (λ x. x == 46) rest ≡ d ∷ slice_split (λ x. x == 46) more → four_bytes (a ∷ b ∷ c ∷ slice_split (λ x. x == 46) rest) ≡ None
five_parts a b c d rest more parts =
    ap (λ (ps : List (List ℕ)). four_bytes (a ∷ b ∷ c ∷ ps)) parts ∙ many a b c d (slice_split (λ x. x == 46) more) (omega (arith, length-slice_split (λ x. x == 46) more))

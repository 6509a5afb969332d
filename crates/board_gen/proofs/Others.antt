-- Texts of another number of parts than a token has.
use Rattle.std.proofs.Common.{arith, ◌≡◌, ◌==◌, ◌≤◌, ℕ, List, [], ◌∷◌, length, Option, None, Some, refl, sym, ap, ◌∙◌}
use Rattle.std.specs.List.{slice_split}
use Rattle.std.proofs.lemmas.List.Splits.{length-slice_split}
use Rattle.board_gen.specs.Links.{happens, link, link_parts, socket, what}

many : (a b c d : List ℕ) (parts : List (List ℕ)) → 1 ≤ length parts → what (a ∷ b ∷ c ∷ d ∷ parts) ≡ None
many a b c d [] some = absurd (omega (arith, some))
many a b c d (part ∷ parts) some = refl

-- a fourth colon
pub too_many : (a b c d rest more : List ℕ) → slice_split (λ x. x == 58) rest ≡ d ∷ slice_split (λ x. x == 58) more → None ≡ what (a ∷ b ∷ c ∷ slice_split (λ x. x == 58) rest)
too_many a b c d rest more parts =
    sym (ap (λ (ps : List (List ℕ)). what (a ∷ b ∷ c ∷ ps)) parts ∙ many a b c d (slice_split (λ x. x == 58) more) (omega (arith, length-slice_split (λ x. x == 58) more)))

nothing : (n : Option ℕ) → None ≡ happens n None
nothing None = refl
nothing (Some n) = refl

-- no colon
pub no_parts : (text : List ℕ) → slice_split (λ x. x == 58) text ≡ text ∷ [] → None ≡ link text
no_parts text whole = nothing (socket text) ∙ sym (ap link_parts whole)

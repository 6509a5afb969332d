-- Texts of another length than an exchange of bytes or two numbers have.
use Rattle.std.proofs.Common.{arith, ◌≡◌, ◌≢◌, ◌==◌, ◌≤◌, ℕ, List, [], ◌∷◌, length, None, refl, sym, ap, ◌∙◌}
use Rattle.std.specs.List.{slice_split}
use Rattle.std.proofs.lemmas.List.Splits.{length-slice_split}
use Rattle.board_judge.specs.Entries.{exchange}
use Rattle.board_judge.specs.Trace.{two_numbers}

pub no_exchange : (text : List ℕ) → length text ≢ 5 → None ≡ exchange text
no_exchange [] not = refl
no_exchange (a ∷ []) not = refl
no_exchange (a ∷ b ∷ []) not = refl
no_exchange (a ∷ b ∷ mark ∷ []) not = refl
no_exchange (a ∷ b ∷ mark ∷ c ∷ []) not = refl
no_exchange (a ∷ b ∷ mark ∷ c ∷ d ∷ []) not = absurd (not refl)
no_exchange (a ∷ b ∷ mark ∷ c ∷ d ∷ e ∷ more) not = refl

many : (tx a : List ℕ) (parts : List (List ℕ)) → 1 ≤ length parts → two_numbers (tx ∷ a ∷ parts) ≡ None
many tx a [] some = absurd (omega (arith, some))
many tx a (part ∷ parts) some = refl

-- a second space
pub three_numbers : (tx rest a b : List ℕ) → slice_split (λ x. x == 32) rest ≡ a ∷ slice_split (λ x. x == 32) b → None ≡ two_numbers (tx ∷ slice_split (λ x. x == 32) rest)
three_numbers tx rest a b parts =
    sym (ap (λ (ps : List (List ℕ)). two_numbers (tx ∷ ps)) parts ∙ many tx a (slice_split (λ x. x == 32) b) (omega (arith, length-slice_split (λ x. x == 32) b)))

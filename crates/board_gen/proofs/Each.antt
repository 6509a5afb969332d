-- The steps of tokens, read from their front.
use Rattle.std.proofs.Common.{◌≡◌, ℕ, List, ◌∷◌, Option, Some, None, option_map, refl, ap, ◌∙◌}
use Rattle.std.specs.Prelude.{IsSome}
use Rattle.std.specs.Option.{option_and_then}
use Rattle.chip_sheet.specs.Replay.{Step}
use Rattle.board_gen.specs.Tokens.{token_step, steps}

-- the first is a step
pub steps_on : (words : List (List ℕ)) (word : List ℕ) (more : List (List ℕ)) (step : Step) → words ≡ word ∷ more → token_step word ≡ Some step
    → steps words ≡ option_map (λ rest. step ∷ rest) (steps more)
steps_on words word more step first is =
    ap steps first ∙ ap (λ (o : Option Step). option_and_then (λ one. option_map (λ rest. one ∷ rest) (steps more)) o) is

-- the first is none
pub steps_none : (words : List (List ℕ)) (word : List ℕ) (more : List (List ℕ)) → words ≡ word ∷ more → token_step word ≡ None → steps words ≡ None
steps_none words word more first is =
    ap steps first ∙ ap (λ (o : Option Step). option_and_then (λ one. option_map (λ rest. one ∷ rest) (steps more)) o) is

mapped_there : (step : Step) (o : Option (List Step)) → IsSome o → IsSome (option_map (λ rest. step ∷ rest) o)
mapped_there step None there = cc
mapped_there step (Some rest) there = refl

there_mapped : (step : Step) (o : Option (List Step)) → IsSome (option_map (λ rest. step ∷ rest) o) → IsSome o
there_mapped step None there = cc
there_mapped step (Some rest) there = refl

good_before : (words : List (List ℕ)) (word : List ℕ) (more : List (List ℕ)) (o : Option Step) → words ≡ word ∷ more → token_step word ≡ o → IsSome o → IsSome (steps more) → IsSome (steps words)
good_before words word more None first is there good = cc
good_before words word more (Some step) first is there good =
    rw (steps_on words word more step first is) (mapped_there step (steps more) good)

-- a step before others
pub steps_good : (words : List (List ℕ)) (word : List ℕ) (more : List (List ℕ)) → words ≡ word ∷ more → IsSome (token_step word) → IsSome (steps more) → IsSome (steps words)
steps_good words word more first there good = good_before words word more (token_step word) first refl there good

bad_before : (words : List (List ℕ)) (word : List ℕ) (more : List (List ℕ)) (o : Option Step) → words ≡ word ∷ more → token_step word ≡ o → IsSome o → steps more ≡ None → steps words ≡ None
bad_before words word more None first is there bad = cc
bad_before words word more (Some step) first is there bad =
    steps_on words word more step first is ∙ ap (option_map (λ (rest : List Step). step ∷ rest)) bad

-- a step before texts that are not all steps
pub steps_bad : (words : List (List ℕ)) (word : List ℕ) (more : List (List ℕ)) → words ≡ word ∷ more → IsSome (token_step word) → steps more ≡ None → steps words ≡ None
steps_bad words word more first there bad = bad_before words word more (token_step word) first refl there bad

-- what stands behind the first step
pub steps_rest : (words : List (List ℕ)) (word : List ℕ) (more : List (List ℕ)) (step : Step) → words ≡ word ∷ more → token_step word ≡ Some step → IsSome (steps words) → IsSome (steps more)
steps_rest words word more step first is good = there_mapped step (steps more) (rw (steps_on words word more step first is) at good)

-- the first of texts that are all steps is one
one_there : (words : List (List ℕ)) (word : List ℕ) (more : List (List ℕ)) (o : Option Step) → words ≡ word ∷ more → token_step word ≡ o → IsSome (steps words) → IsSome o
one_there words word more None first is good = let none = rw (steps_none words word more first is) at good in cc
one_there words word more (Some step) first is good = refl

pub first_step : (words : List (List ℕ)) (word : List ℕ) (more : List (List ℕ)) → words ≡ word ∷ more → IsSome (steps words) → IsSome (token_step word)
first_step words word more first good = one_there words word more (token_step word) first refl good

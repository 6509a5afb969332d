-- How an answer is added to a line.
use Rattle.std.specs.Prelude.{ℕ, List, [], ◌∷◌, ◌++◌, Option, None, Some}

-- A space behind what stands on a line.
abbrev pub spaced : List ℕ → List ℕ
spaced [] = []
spaced (b ∷ text) = (b ∷ text) ++ 32 ∷ []

-- A piece behind what stands on a line.
abbrev pub with_printed : List ℕ → Option (List ℕ) → List ℕ
with_printed text None = text
with_printed text (Some piece) = spaced text ++ piece

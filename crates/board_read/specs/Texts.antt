-- Lists of texts.
use Rattle.std.specs.Prelude.{ℕ, List, map}
use Rattle.std.specs.Borrow.{Bor}

-- The texts that these references show.
abbrev pub texts : List (Bor (List ℕ)) → List (List ℕ)
texts = map (λ t. t.now)

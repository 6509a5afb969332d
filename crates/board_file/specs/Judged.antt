-- What judging gives: what a value or a table says, or what is wrong; one after another, and one for each of a list.
use Rattle.std.specs.Prelude.{ℕ, ◌+◌, List, [], ◌∷◌, Result, Ok, Err}
use Rattle.board_file.specs.declared.fault.Key.{Key}
use Rattle.board_file.specs.declared.fault.KeyKind.{KeyKind}
use Rattle.board_file.specs.declared.fault.BoardFault.{BoardFault}

-- What follows, where the first is not wrong.
infixl 10 ◌>>=◌
abbrev pub ◌>>=◌ : {A B E : Type 0} → Result A E → (A → Result B E) → Result B E
Ok x >>= f = f x
Err e >>= f = Err e

-- What is wrong with a value is a fault of its key, in the entry with this number.
abbrev pub faulted : {A : Type 0} → Key → ℕ → Result A KeyKind → Result A BoardFault
faulted key entry (Ok x) = Ok x
faulted key entry (Err kind) = Err (record { key = key; entry = entry; kind = kind })

-- What is said of each, the first of which has the number n; or what is wrong with the first that is not right.
abbrev pub each_from : {A B E : Type 0} → (ℕ → A → Result B E) → ℕ → List A → Result (List B) E
each_from judge n [] = Ok []
each_from judge n (x ∷ xs) = do
  first ← judge n x
  others ← each_from judge (n + 1) xs
  Ok (first ∷ others)

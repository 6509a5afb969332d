-- Sums over lists, and one history made by two. A history has the newest first; the place of an entry is how many came before it.
use Rattle.std.specs.Prelude.{◌≡◌, ℕ, zero, suc, ◌+◌, List, [], ◌∷◌, map, length, Bool, true, false, if◌then◌else◌, not}

-- f of each, added up.
abbrev pub total : {A : Type 0} → (A → ℕ) → List A → ℕ
total f [] = 0
total f (x ∷ xs) = f x + total f xs

-- f of each number below n, added up.
abbrev pub below : (ℕ → ℕ) → ℕ → ℕ
below f zero = 0
below f (suc n) = f n + below f n

-- 0 is the first.
abbrev pub is_first : ℕ → Bool
is_first zero = true
is_first (suc n) = false

abbrev pub same : Bool → Bool → Bool
same true b = b
same false true = false
same false false = true

-- Of a history with marks, the entries with this mark, with their places.
abbrev pub picks : {A : Type 0} → Bool → List (Bool × A) → List (ℕ × A)
picks who [] = []
picks who (x ∷ xs) = if same who x.0 then (length xs, x.1) ∷ picks who xs else picks who xs

-- The history without its marks.
abbrev pub bare : {A : Type 0} → List (Bool × A) → List A
bare xs = map (λ x. x.1) xs

-- Each place of the history stands in exactly one of the two, in order, with the entry that is there: there are marks that say whose.
pub record IsWoven {A : Type 0} (one other : List (ℕ × A)) (whole : List A) : Type 0 where
  pub who : Bool
  pub log : List (Bool × A)
  pub all : bare log ≡ whole
  pub mine : one ≡ picks who log
  pub theirs : other ≡ picks (not who) log

-- Whole files and whole texts. Each relation that names bytes holds of every answer where they are not told.
use Rattle.std.specs.Prelude.{◌≡◌, ℕ, ◌<◌, ◌≤◌, List, ◌++◌, length, take, Option, None, Some, option_map, IfSome, IsSomeAnd}

-- where files are told, the name holds exactly these bytes
abbrev pub HoldsWhole : Option (List ℕ → Option (List ℕ)) → List ℕ → List ℕ → Type 0
HoldsWhole held name bytes = IfSome held (λ h. h name ≡ Some bytes)

-- where files are told, the name holds more than so many bytes
abbrev pub HoldsMore : Option (List ℕ → Option (List ℕ)) → List ℕ → ℕ → Type 0
HoldsMore held name limit = IfSome held (λ h. IsSomeAnd (h name) (λ bytes. limit < length bytes))

-- where files are told, there is no file of that name
abbrev pub HoldsNone : Option (List ℕ → Option (List ℕ)) → List ℕ → Type 0
HoldsNone held name = IfSome held (λ h. h name ≡ None)

-- where it is told what is left, it is exactly these bytes
abbrev pub IsLeft : Option (List ℕ) → List ℕ → Type 0
IsLeft left bytes = IfSome left (λ l. l ≡ bytes)

-- where it is told what is left, it is more than so many bytes
abbrev pub IsLonger : Option (List ℕ) → ℕ → Type 0
IsLonger left limit = IfSome left (λ l. limit < length l)

-- these bytes were written after the earlier ones, and no others
abbrev pub Appends : Option (List ℕ) → List ℕ → Option (List ℕ) → Type 0
Appends old bytes new = new ≡ option_map (λ w. w ++ bytes) old

-- a prefix of these bytes was written after the earlier ones, and no others
abbrev pub AppendsFront : Option (List ℕ) → List ℕ → Option (List ℕ) → Type 0
AppendsFront old bytes new = (n : ℕ) × (n ≤ length bytes) × Appends old (take n bytes) new

-- What the calls of a source, of files and of a sink mean. All of it is this profile's own.
use Rattle.std.specs.Prelude.{◌≡◌, ◌⊎◌, ℕ, ◌+◌, ◌-◌, ◌^◌, ◌<◌, ◌≤◌, min, List, [], ◌++◌, length, take, drop, Option, None, Some, option_map, MatchOption, IfSome, Result, Ok, Err}
use Rattle.wz_base.specs.declared.outside.PickFault.{PickFault}
use Rattle.wz_base.specs.declared.outside.PickFault.TheVariants.{NoFile, ReadFault}

-- the count rose, or stands at the last value of u64
abbrev pub Rose : ℕ → ℕ → Type 0
Rose before now = min (before + 1) (2 ^ 64 - 1) ≤ now

-- a count never falls, rises where the cause holds, and stands still where it does not
pub record RisesOnly (Cause : Type 0) (before now : ℕ) : Type 0 where
  pub later : before ≤ now
  pub rose : Cause → Rose before now
  pub still : ¬ Cause → now ≡ before

-- the first bytes that were left stand at the start of the buffer, and are no longer left
pub record ReadsFront (count : ℕ) (left buf rest : List ℕ) : Type 0 where
  pub there : count ≤ length left
  pub moved : take count buf ≡ take count left
  pub after : rest ≡ drop count left
  pub last : count ≡ 0 → (length buf ≡ 0) ⊎ (left ≡ [])

-- so many bytes were read into the buffer; where it is told what is left, these are its first ones
pub record Reads (count : ℕ) (left : Option (List ℕ)) (buf : List ℕ) (rest : Option (List ℕ)) : Type 0 where
  pub bound : count ≤ length buf
  pub bytes : MatchOption left (rest ≡ None) (λ l. MatchOption rest ⊥ (λ r. ReadsFront count l buf r))

-- a name that was picked holds bytes, and they are left to read; one that was not found holds none
abbrev pub PicksTold : (List ℕ → Option (List ℕ)) → List ℕ → Result Unit PickFault → Option (List ℕ) → Type 0
PicksTold held name (Ok u) left = MatchOption (held name) ⊥ (λ bytes. left ≡ Some bytes)
PicksTold held name (Err NoFile) left = held name ≡ None
PicksTold held name (Err ReadFault) left = Unit {0}

-- what a pick answers and leaves to read, where files are told
abbrev pub Picks : Option (List ℕ → Option (List ℕ)) → List ℕ → Result Unit PickFault → Option (List ℕ) → Type 0
Picks held name result left = IfSome held (λ h. PicksTold h name result left)

-- the first bytes of the piece were written, at least one where there is one
pub record Writes (count : ℕ) (old : Option (List ℕ)) (piece : List ℕ) (new : Option (List ℕ)) : Type 0 where
  pub bound : count ≤ length piece
  pub some : 0 < length piece → 1 ≤ count
  pub bytes : new ≡ option_map (λ w. w ++ take count piece) old

-- Lines that are read one after another, and the first of which nothing is read.
use Rattle.std.specs.Prelude.{◌≡◌, ℕ, ◌+◌, List, [], ◌∷◌, ◌++◌, map, length, Bool, true, false, Option, None, Some, IsSome, Result, Ok, Err}
use Rattle.board_gen.specs.declared.fault.ScriptFault.{ScriptFault}
use Rattle.board_gen.specs.declared.fault.ScriptKind.TheVariants.{BadToken}

abbrev pub line_found : {A : Type 0} → ℕ → Option A → Result A ScriptFault
line_found n None = Err (record { line = n; kind = BadToken })
line_found n (Some found) = Ok found

abbrev pub with_line : {A : Type 0} → Result A ScriptFault → Result (List A) ScriptFault → Result (List A) ScriptFault
with_line (Err fault) rest = Err fault
with_line (Ok line) (Ok rest) = Ok (line ∷ rest)
with_line (Ok line) (Err fault) = Err fault

-- What is read of each of these lines, the first of which has the number n; or a fault at the first of which nothing is.
abbrev pub read_from : {A : Type 0} → (List ℕ → Option A) → ℕ → List (List ℕ) → Result (List A) ScriptFault
read_from read n [] = Ok []
read_from read n (line ∷ more) = with_line (line_found n (read line)) (read_from read (n + 1) more)

-- Something is read of each line.
abbrev pub EachRead : {A : Type 0} → (List ℕ → Option A) → List (List ℕ) → Type 0
EachRead read [] = Unit {0}
EachRead read (line ∷ more) = IsSome (read line) × EachRead read more

-- The answer tells whether there is something.
abbrev pub Tells : {A : Type 0} → Bool → Option A → Type 0
Tells true found = IsSome found
Tells false found = found ≡ None

-- The fault is at a line of which nothing is read, and something is of each before it; lines are counted from n.
pub record FirstFault {A : Type 0} (read : List ℕ → Option A) (n : ℕ) (lines : List (List ℕ)) (fault : ScriptFault) : Type 0 where
  pub before : List (List ℕ)
  pub faulty : List ℕ
  pub behind : List (List ℕ)
  pub parts : lines ≡ before ++ faulty ∷ behind
  pub number : fault.line ≡ n + length before
  pub kind : fault.kind ≡ BadToken
  pub each : EachRead read before
  pub none : read faulty ≡ None

-- The fault that is found is the first.
abbrev pub FaultIsFirst : {A : Type 0} → (List ℕ → Option A) → Type 0
FaultIsFirst read =
    (n : ℕ) (lines : List (List ℕ)) (fault : ScriptFault) → read_from read n lines ≡ Err fault → FirstFault read n lines fault

-- Where all is read, it is what is read of each line.
abbrev pub ReadsEach : {A : Type 0} → (List ℕ → Option A) → Type 0
ReadsEach {A} read =
    (n : ℕ) (lines : List (List ℕ)) (found : List A) → read_from read n lines ≡ Ok found → map read lines ≡ map Some found

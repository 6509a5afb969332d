-- The first line of which nothing is read, and lines without one.
use Rattle.std.proofs.Common.{arith, ◌≡◌, ℕ, ◌+◌, List, [], ◌∷◌, map, Option, None, Some, Result, Ok, Err, refl, ap, ◌∙◌}
use Rattle.std.specs.Prelude.{IsSome, unwrap_or}
use Rattle.board_gen.specs.declared.fault.ScriptFault.{ScriptFault}
use Rattle.board_gen.specs.EachLine.{line_found, with_line, read_from, EachRead, FirstFault, FaultIsFirst, ReadsEach}

is_some : {A : Type 0} (o : Option A) (found : A) → o ≡ Some found → IsSome o
is_some o found is = rw is refl

fault_at : {A : Type 0} (read : List ℕ → Option A) (n : ℕ) (line : List ℕ) (more : List (List ℕ)) (fault : ScriptFault) (o : Option A) (rest : Result (List A) ScriptFault) → read line ≡ o
    → (rest ≡ Err fault → FirstFault read (n + 1) more fault) → with_line (line_found n o) rest ≡ Err fault → FirstFault read n (line ∷ more) fault
fault_at read n line more fault None rest is later h = record {
  before = [];
  faulty = line;
  behind = more;
  parts = refl;
  number = let same : fault.line ≡ n = cc in omega (arith, same);
  kind = cc;
  each = tt;
  none = is;
}
fault_at read n line more fault (Some found) (Ok lines) is later h = absurd (cc)
fault_at read n line more fault (Some found) (Err other) is later h =
    let first = later h in record {
      before = line ∷ first.before;
      faulty = first.faulty;
      behind = first.behind;
      parts = ap (λ (lines : List (List ℕ)). line ∷ lines) first.parts;
      number = omega (arith, first.number);
      kind = first.kind;
      each = (is_some (read line) found is, first.each);
      none = first.none;
    }

pub first_fault : {A : Type 0} (read : List ℕ → Option A) → FaultIsFirst read
first_fault read n [] fault h = absurd (cc)
first_fault read n (line ∷ more) fault h =
    fault_at read n line more fault (read line) (read_from read (n + 1) more) refl (first_fault read (n + 1) more fault) h

line_is : {A : Type 0} (read : List ℕ → Option A) (n : ℕ) (line : List ℕ) (more : List (List ℕ)) (all : List A) (o : Option A) (rest : Result (List A) ScriptFault) → read line ≡ o
    → ((found : List A) → rest ≡ Ok found → map read more ≡ map Some found) → with_line (line_found n o) rest ≡ Ok all → read line ∷ map read more ≡ map Some all
line_is read n line more all None rest is later h = absurd (cc)
line_is read n line more all (Some found) (Err fault) is later h = absurd (cc)
line_is {A} read n line more all (Some found) (Ok lines) is later h =
    let whole : found ∷ lines ≡ all = cc in
    ap (λ (o : Option A). o ∷ map read more) is
    ∙ ap (λ (os : List (Option A)). Some found ∷ os) (later lines refl)
    ∙ ap (map Some) whole

pub each_line : {A : Type 0} (read : List ℕ → Option A) → ReadsEach read
each_line {A} read n [] found h = let none : [] ≡ found = cc in ap (map Some) none
each_line read n (line ∷ more) found h = line_is read n line more found (read line) (read_from read (n + 1) more) refl (each_line read (n + 1) more) h

-- a line that is read before others
pub all_read : {A : Type 0} (read : List ℕ → Option A) (lines : List (List ℕ)) (line : List ℕ) (more : List (List ℕ)) → lines ≡ line ∷ more → IsSome (read line) → EachRead read more → EachRead read lines
all_read read lines line more first there others = rw first (there, others)

later_fault : {A : Type 0} (n : ℕ) (o : Option A) (rest : Result (List A) ScriptFault) (fault : ScriptFault) → IsSome o → rest ≡ Err fault → with_line (line_found n o) rest ≡ Err fault
later_fault n None rest fault there bad = cc
later_fault n (Some found) rest fault there bad = ap (with_line (Ok found)) bad

-- a line that is read before one with a fault
pub fault_behind : {A : Type 0} (read : List ℕ → Option A) (n : ℕ) (lines : List (List ℕ)) (line : List ℕ) (more : List (List ℕ)) (fault : ScriptFault) → lines ≡ line ∷ more → IsSome (read line) → read_from read (n + 1) more ≡ Err fault
    → read_from read n lines ≡ Err fault
fault_behind read n lines line more fault first there bad =
    ap (read_from read n) first ∙ later_fault n (read line) (read_from read (n + 1) more) fault there bad

-- a line of which nothing is read
pub fault_here : {A : Type 0} (read : List ℕ → Option A) (n : ℕ) (lines : List (List ℕ)) (line : List ℕ) (more : List (List ℕ)) (fault : ScriptFault) → lines ≡ line ∷ more → read line ≡ None → line_found n (read line) ≡ Err fault
    → read_from read n lines ≡ Err fault
fault_here read n lines line more fault first none bad =
    ap (read_from read n) first ∙ ap (λ (r : Result _ _). with_line r (read_from read (n + 1) more)) bad

read_one : {A : Type 0} (n : ℕ) (o : Option A) (other : A) (rest : Result (List A) ScriptFault) (all : List A) → IsSome o → rest ≡ Ok all → with_line (line_found n o) rest ≡ Ok (unwrap_or o other ∷ all)
read_one n None other rest all there is = cc
read_one n (Some found) other rest all there is = ap (with_line (Ok found)) is

-- lines that are read
pub read_lines : {A : Type 0} (read : List ℕ → Option A) (other : A) (n : ℕ) (lines : List (List ℕ)) → EachRead read lines → read_from read n lines ≡ Ok (map (λ line. unwrap_or (read line) other) lines)
read_lines read other n [] all = refl
read_lines read other n (line ∷ more) (there, all) =
    read_one n (read line) other (read_from read (n + 1) more) (map (λ l. unwrap_or (read l) other) more) there (read_lines read other (n + 1) more all)

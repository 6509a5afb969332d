-- Counts that rise by a cause.
use Rattle.std.proofs.Common.{◌≡◌, ◌≤◌, ℕ, List, Vec, Option, None, Some, IfSome, Result, Ok, Err, IfOk, IsErrOf, length, refl, arith}
use Rattle.std.specs.declared.alloc.Global.{Global}
use Rattle.wz_base.specs.Outside.{RisesOnly, Rose}
use Rattle.wz_base.specs.Whole.{HoldsMore, HoldsNone, HoldsWhole}
use Rattle.wz_base.specs.declared.reading.ReadError.{ReadError}
use Rattle.wz_base.specs.declared.reading.ReadError.TheVariants.{NoFile, ReadFault, TooLong, NoMemory}
use Rattle.board_quick.specs.Reads.{counts, reading_of, Gave, WasRead}
use Rattle.board_quick.specs.declared.reading.TheConstants.{TEXT_LIMIT}

-- the same count, by another cause that holds exactly where this one does
pub rises_as : {P Q : Type 0} (before now : ℕ) → (Q → P) → (P → Q) → RisesOnly P before now → RisesOnly Q before now
rises_as before now to from by = record { later = by.later; rose = λ q. by.rose (to q); still = λ no. by.still (λ p. no (from p)) }

-- a count that rose later
pub rose_since : (a b c : ℕ) → a ≤ b → Rose b c → Rose a c
rose_since a b c less rose = omega (arith, less, rose)

reading_is : (r : Result (Vec ℕ Global) ReadError) (e : ReadError) → reading_of r ≡ Err e → r ≡ Err e
reading_is (Ok text) e is = cc
reading_is (Err f) e is = cc

is_reading : (r : Result (Vec ℕ Global) ReadError) (e : ReadError) → r ≡ Err e → reading_of r ≡ Err e
is_reading (Ok text) e is = cc
is_reading (Err f) e is = cc

may_any : (files : Option (List ℕ → Option (List ℕ))) (name : List ℕ) (e : ReadError) → ((held : Option (List ℕ)) → Gave held (Err e)) → IfSome files (λ held. Gave (held name) (Err e))
may_any None name e gave = tt
may_any (Some held) name e gave = gave (held name)

may : (files : Option (List ℕ → Option (List ℕ))) (name : List ℕ) (r : Result (Vec ℕ Global) ReadError)
    → IfOk r (λ text. HoldsWhole files name text.items) → (IsErrOf r NoFile → HoldsNone files name) → (IsErrOf r TooLong → HoldsMore files name TEXT_LIMIT)
    → IfSome files (λ held. Gave (held name) (reading_of r))
may files name (Ok text) whole none more = whole
may files name (Err NoFile) whole none more = none refl
may files name (Err ReadFault) whole none more = may_any files name ReadFault (λ held. tt)
may files name (Err TooLong) whole none more = more refl
may files name (Err NoMemory) whole none more = may_any files name NoMemory (λ held. tt)

fits : (r : Result (Vec ℕ Global) ReadError) → IfOk r (λ text. length text.items ≤ TEXT_LIMIT) → IfOk (reading_of r) (λ text. length text ≤ TEXT_LIMIT)
fits (Ok text) within = within
fits (Err e) within = tt

-- what reading a whole file gives
pub was_read : (files : Option (List ℕ → Option (List ℕ))) (name : List ℕ) (misses misses' faults faults' : ℕ) (r : Result (Vec ℕ Global) ReadError)
    → IfOk r (λ text. HoldsWhole files name text.items) → IfOk r (λ text. length text.items ≤ TEXT_LIMIT) → (IsErrOf r NoFile → HoldsNone files name) → (IsErrOf r TooLong → HoldsMore files name TEXT_LIMIT)
    → RisesOnly (IsErrOf r NoFile) misses misses' → RisesOnly (IsErrOf r ReadFault) faults faults' → WasRead files name (counts misses faults) (counts misses' faults') (reading_of r)
was_read files name misses misses' faults faults' r whole within none more missed failed = record {
  may = may files name r whole none more;
  fits = fits r within;
  missed = rises_as misses misses' (reading_is r NoFile) (is_reading r NoFile) missed;
  failed = rises_as faults faults' (reading_is r ReadFault) (is_reading r ReadFault) failed;
}

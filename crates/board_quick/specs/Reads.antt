-- What is read of an operand.
use Rattle.std.specs.Prelude.{◌≡◌, ◌<◌, ◌≤◌, ℕ, List, length, Vec, Option, Some, None, IfSome, IsSomeAnd, Result, Ok, Err, IfOk}
use Rattle.std.specs.declared.alloc.Global.{Global}
use Rattle.wz_base.specs.Outside.{RisesOnly}
use Rattle.wz_base.specs.declared.reading.ReadError.{ReadError}
use Rattle.wz_base.specs.declared.reading.ReadError.TheVariants.{NoFile, ReadFault, TooLong, NoMemory}
use Rattle.board_quick.specs.declared.reading.TheConstants.{TEXT_LIMIT}

-- The text of a file, or why it was not read.
abbrev pub Reading : Type 0
Reading = Result (List ℕ) ReadError

abbrev pub reading_of : Result (Vec ℕ Global) ReadError → Reading
reading_of (Ok text) = Ok text.items
reading_of (Err e) = Err e

-- How many files were asked for and not there, and how many calls of the files failed.
pub record Counts : Type 0 where
  pub misses : ℕ
  pub faults : ℕ

abbrev pub counts : ℕ → ℕ → Counts
counts misses faults = record { misses = misses; faults = faults }

-- What files may give of a name that holds these bytes, or none.
abbrev pub Gave : Option (List ℕ) → Reading → Type 0
Gave held (Ok text) = held ≡ Some text
Gave held (Err NoFile) = held ≡ None
Gave held (Err ReadFault) = Unit {0}
Gave held (Err TooLong) = IsSomeAnd held (λ bytes. TEXT_LIMIT < length bytes)
Gave held (Err NoMemory) = Unit {0}

-- What was read of a name: where files are told, what the name holds, or a failed read; a text within the limit; no file exactly where
-- the count of misses rose, and a failed read exactly where the count of faults rose.
pub record WasRead (files : Option (List ℕ → Option (List ℕ))) (name : List ℕ) (before after : Counts) (reading : Reading) : Type 0 where
  pub may : IfSome files (λ held. Gave (held name) reading)
  pub fits : IfOk reading (λ text. length text ≤ TEXT_LIMIT)
  pub missed : RisesOnly (reading ≡ Err NoFile) before.misses after.misses
  pub failed : RisesOnly (reading ≡ Err ReadFault) before.faults after.faults

-- What the value of a key says, or what is wrong with it.
use Rattle.std.specs.Prelude.{ℕ, ◌==◌, ◌&&◌, nat_le, ℤ, pos, negsuc, List, [], ◌∷◌, length, Option, None, Some, ok_or, option_map, option_and_then, Result, Ok, Err, if◌then◌else◌}
use Rattle.toml.specs.Data.{Data, Items, no_items, item, as_integer, as_str, as_array}
use Rattle.board_read.specs.Lists.{each}
use Rattle.board_read.specs.Bytes.{bytes}
use Rattle.board_file.specs.declared.fault.KeyKind.{KeyKind}
use Rattle.board_file.specs.declared.fault.KeyKind.TheVariants.{Missing, WrongType, OutOfRange, BadText}
use Rattle.board_file.specs.Judged.{◌>>=◌}

-- A number of this range.
abbrev pub ranged : ℕ → ℕ → ℤ → Option ℕ
ranged least most (pos n) = if nat_le least n && nat_le n most then Some n else None
ranged least most (negsuc n) = None

abbrev pub number : ℕ → ℕ → Data → Result ℕ KeyKind
number least most value = do
  z ← ok_or (as_integer value) WrongType
  ok_or (ranged least most z) OutOfRange

-- A text that this reads.
abbrev pub text : {A : Type 0} → (List ℕ → Option A) → Data → Result A KeyKind
text read value = do
  written ← ok_or (as_str value) WrongType
  ok_or (read written) BadText

-- A list of at most so many.
abbrev pub few : {A : Type 0} → ℕ → List A → Result (List A) KeyKind
few many xs = if nat_le (length xs) many then Ok xs else Err OutOfRange

-- A list of exactly so many, where another list has as many.
abbrev pub as_many : {A : Type 0} → ℕ → List A → Result (List A) KeyKind
as_many many xs = if length xs == many then Ok xs else Err BadText

abbrev pub list_of : Items → List Data
list_of no_items = []
list_of (item value items) = value ∷ list_of items

-- The values of an array.
abbrev pub items : Data → Option (List Data)
items value = option_map list_of (as_array value)

-- What `kind_of` finds in each value of an array.
abbrev pub all_of : {A : Type 0} → (Data → Option A) → Data → Option (List A)
all_of kind_of value = option_and_then (each kind_of) (items value)

-- A list of at most so many values of one kind, each of which is then read.
abbrev pub listed : {A B : Type 0} → (Data → Option A) → (A → Option B) → KeyKind → ℕ → Data → Result (List B) KeyKind
listed kind_of read fault many value = do
  found ← ok_or (all_of kind_of value) WrongType
  counted ← few many found
  ok_or (each read counted) fault

-- At most so many numbers of this range.
abbrev pub numbers : ℕ → ℕ → ℕ → Data → Result (List ℕ) KeyKind
numbers many least most = listed as_integer (ranged least most) OutOfRange many

-- Exactly so many numbers of this range.
abbrev pub numbers_beside : ℕ → ℕ → ℕ → Data → Result (List ℕ) KeyKind
numbers_beside many least most value = do
  found ← ok_or (all_of as_integer value) WrongType
  numbers ← ok_or (each (ranged least most) found) OutOfRange
  as_many many numbers

abbrev pub no_longer : ℕ → List ℕ → Option (List ℕ)
no_longer most bytes = if nat_le (length bytes) most then Some bytes else None

-- At most so many bytes, as hexadecimal digits.
abbrev pub chunk : ℕ → List ℕ → Option (List ℕ)
chunk most written = option_and_then (no_longer most) (bytes written)

-- At most so many texts, each of at most so many bytes as hexadecimal digits.
abbrev pub chunks : ℕ → ℕ → Data → Result (List (List ℕ)) KeyKind
chunks many most = listed as_str (chunk most) BadText many

-- A key that has to be there.
abbrev pub required : {A : Type 0} → (Data → Result A KeyKind) → Option Data → Result A KeyKind
required judge None = Err Missing
required judge (Some value) = judge value

-- A key that may be left out, and what then stands for it.
abbrev pub optional : {A : Type 0} → A → (Data → Result A KeyKind) → Option Data → Result A KeyKind
optional default judge None = Ok default
optional default judge (Some value) = judge value

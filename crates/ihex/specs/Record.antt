-- Records of an Intel HEX file (Intel, "Hexadecimal Object File Format Specification", revision A): count, address high and
-- low, type, data, checksum, a byte each but the data. This profile's own: the order of the faults, and that flash has 32,768 bytes.
use Rattle.std.specs.Prelude.{ℕ, ◌+◌, ◌*◌, ◌%◌, Bool, true, false, not, ◌==◌, ◌||◌, nat_le, nat_lt, List, [], ◌∷◌, length, slice_index, slice_range, sum, Option, None, Some, if◌then◌else◌}
use Rattle.std.specs.List.{list_any, list_all}
use Rattle.ihex.specs.declared.fault.HexKind.{HexKind}
use Rattle.ihex.specs.declared.fault.HexKind.TheVariants.{AfterEnd, BadStart, BadDigit, BadLength, BadSum, BadType, OutOfFlash}
use Rattle.ihex.specs.Digits.{is_digit, bytes_of}
use Rattle.ihex.specs.Flash.{Placed, placed}

-- Whether a fault stands in a line, and its kind.
pub record Fault : Type 0 where
  pub stands : Bool
  pub kind : HexKind

-- The kind of the first that stands.
abbrev pub first_kind : List Fault → Option HexKind
first_kind [] = None
first_kind (f ∷ more) = if f.stands then Some f.kind else first_kind more

-- The number of data bytes that a record tells.
abbrev pub count_of : List ℕ → ℕ
count_of bytes = slice_index bytes 0

-- The address of a record: its high byte stands first.
abbrev pub address_of : List ℕ → ℕ
address_of bytes = 256 * slice_index bytes 1 + slice_index bytes 2

-- The type of a record: 0 data, 1 end, 2 extended segment, 3 start segment, 4 extended linear, 5 start linear.
abbrev pub type_of : List ℕ → ℕ
type_of bytes = slice_index bytes 3

-- The data bytes of a record.
abbrev pub data_of : List ℕ → List ℕ
data_of bytes = slice_range bytes 4 (4 + count_of bytes)

-- The value of two data bytes: the high one stands first.
abbrev pub value_of : List ℕ → ℕ
value_of bytes = 256 * slice_index bytes 4 + slice_index bytes 5

-- A count fits a type: an end record has no data bytes, a base two, a start address four, and a data record any number.
unfoldable pub count_fits : ℕ → ℕ → Bool
count_fits kind count =
    if kind == 1 then count == 0 else (if kind == 2 || kind == 4 then count == 2 else (if kind == 3 || kind == 5 then count == 4 else true))

-- The data bytes that a record puts into flash under a base: those of a data record, from base plus address on.
unfoldable pub record_data : ℕ → List ℕ → List Placed
record_data base bytes = if type_of bytes == 0 then placed (base + address_of bytes) (data_of bytes) else []

-- Some data byte stands outside flash.
unfoldable pub is_outside : List Placed → Bool
is_outside ps = list_any (λ p. nat_le 32768 p.place) ps

-- The faults of a record, in their order.
abbrev pub record_faults : ℕ → List ℕ → List Fault
record_faults base bytes =
    record { stands = not (length bytes == count_of bytes + 5); kind = BadLength }
    ∷ record { stands = not (sum bytes % 256 == 0); kind = BadSum }
    ∷ record { stands = nat_lt 5 (type_of bytes); kind = BadType }
    ∷ record { stands = not (count_fits (type_of bytes) (count_of bytes)); kind = BadLength }
    ∷ record { stands = is_outside (record_data base bytes); kind = OutOfFlash }
    ∷ []

-- The faults of what stands behind the colon, in their order.
abbrev pub digit_faults : ℕ → List ℕ → List Fault
digit_faults base digits =
    record { stands = not (list_all is_digit digits); kind = BadDigit }
    ∷ record { stands = not (length digits % 2 == 0); kind = BadLength }
    ∷ record_faults base (bytes_of digits)

-- What the lines before a line leave for it: the base of the last base record, and whether an end record was there.
pub record Above : Type 0 where
  pub base : ℕ
  pub ended : Bool

-- Above the first line.
abbrev pub at_start : Above
at_start = record { base = 0; ended = false }

-- The faults of a line that is not empty, in their order; 58 is the colon.
abbrev pub line_faults : Above → List ℕ → List Fault
line_faults above line =
    record { stands = above.ended; kind = AfterEnd }
    ∷ record { stands = not (slice_index line 0 == 58); kind = BadStart }
    ∷ digit_faults above.base (slice_range line 1 (length line))

-- The first fault of a line. An empty line has none.
unfoldable pub fault_of : Above → List ℕ → Option HexKind
fault_of above line = if length line == 0 then None else first_kind (line_faults above line)

-- The bytes of a line's record.
abbrev pub record_of : List ℕ → List ℕ
record_of line = bytes_of (slice_range line 1 (length line))

-- Below a record. Each base record sets the base anew: an extended segment to 16 times its value, an extended linear one to 65536 times.
unfoldable pub below_record : Above → List ℕ → Above
below_record above bytes =
    if type_of bytes == 1 then record above { ended = true }
    else (if type_of bytes == 2 then record above { base = 16 * value_of bytes }
    else (if type_of bytes == 4 then record above { base = 65536 * value_of bytes }
    else above))

-- Below a line.
unfoldable pub below : Above → List ℕ → Above
below above line = if length line == 0 then above else below_record above (record_of line)

-- The data bytes that a line puts into flash.
unfoldable pub line_data : Above → List ℕ → List Placed
line_data above line = if length line == 0 then [] else record_data above.base (record_of line)

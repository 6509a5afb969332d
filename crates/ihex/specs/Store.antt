-- The one text of an image: a record of 16 bytes for each aligned row of 16 bytes that is not all FF, rising, and an end record.
use Rattle.std.specs.Prelude.{ℕ, zero, suc, ◌+◌, ◌*◌, ◌-◌, ◌/◌, ◌%◌, ◌==◌, nat_lt, List, [], ◌∷◌, ◌++◌, slice_range, sum, if◌then◌else◌}
use Rattle.std.specs.List.{list_all}

-- The character of a value below 16: 0 to 9, then A to F.
unfoldable pub upper : ℕ → ℕ
upper v = if nat_lt v 10 then 48 + v else 55 + v

-- Bytes as pairs of digits, the high digit of each first.
abbrev pub digits_of : List ℕ → List ℕ
digits_of [] = []
digits_of (b ∷ more) = upper (b / 16) ∷ upper (b % 16) ∷ digits_of more

-- The byte that makes a sum a multiple of 256.
abbrev pub checksum : ℕ → ℕ
checksum total = (256 - total % 256) % 256

-- The bytes of a row's data record in front of its data: the count, the address and the type 0.
abbrev pub head_of : ℕ → List ℕ
head_of at = 16 ∷ at / 256 ∷ at % 256 ∷ 0 ∷ []

-- The line of a row's data record: 58 is the colon, 10 is LF.
unfoldable pub record_line : ℕ → List ℕ → List ℕ
record_line at row =
    58 ∷ [] ++ digits_of (head_of at) ++ digits_of row ++ digits_of (checksum (sum (head_of at) + sum row) ∷ []) ++ 10 ∷ []

-- A row of an image.
abbrev pub row_of : List ℕ → ℕ → List ℕ
row_of image k = slice_range image (16 * k) (16 * k + 16)

-- The text of a row: none where each byte is FF.
unfoldable pub row_line : List ℕ → ℕ → List ℕ
row_line image k = if list_all (λ b. b == 255) (row_of image k) then [] else record_line (16 * k) (row_of image k)

-- The text of the rows below row k.
abbrev pub rows_below : List ℕ → ℕ → List ℕ
rows_below image zero = []
rows_below image (suc k) = rows_below image k ++ row_line image k

-- The end record.
abbrev pub end_line : List ℕ
end_line = 58 ∷ digits_of (0 ∷ 0 ∷ 0 ∷ 1 ∷ 255 ∷ []) ++ 10 ∷ []

-- The text of an image.
unfoldable pub hex_text : List ℕ → List ℕ
hex_text image = rows_below image 2048 ++ end_line

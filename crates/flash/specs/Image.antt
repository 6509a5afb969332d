-- An image is the list of its 32,768 bytes, from flash address 0.
use Rattle.std.specs.Prelude.{ℕ, List, ◌+◌, ◌*◌, replicate, slice_index}

-- So many copies of a byte.
unfoldable pub filled : ℕ → ℕ → List ℕ
filled n byte = replicate n byte

-- Erased flash: FF everywhere (ATmega328P datasheet, "Memory Programming": an erased location reads FF).
abbrev pub erased : List ℕ
erased = filled 32768 255

-- The program word at a word address: the low byte of a word stands at the lower byte address.
abbrev pub word_at : List ℕ → ℕ → ℕ
word_at image at = slice_index image (2 * at) + 256 * slice_index image (2 * at + 1)

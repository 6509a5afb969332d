-- Bytes as hexadecimal digits, an even number of them or none.
use Rattle.std.specs.Prelude.{ℕ, List, Option, None, Some, Result, Ok, Err}
use Rattle.hex.specs.Hex.{decode_of}
use Rattle.hex.specs.declared.error.FromHexError.{FromHexError}

abbrev pub bytes_read : Result (List ℕ) FromHexError → Option (List ℕ)
bytes_read (Ok bytes) = Some bytes
bytes_read (Err e) = None

abbrev pub bytes : List ℕ → Option (List ℕ)
bytes text = bytes_read (decode_of text)

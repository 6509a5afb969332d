-- What stands there, with the digits of the bytes that are left, is what the call is to leave.
use Rattle.std.proofs.Common.{◌≡◌, ◌++◌, drop}
use Rattle.board_text.specs.Entries.{bytes_text}
use Rattle.board_text.proofs.entries.push_bytes.Given as goal

abbrev pub invariant-loop-byte : goal.invariant-loop-byte
invariant-loop-byte l = l.text.items ++ bytes_text (drop l.byte-index l.bytes) ≡ l.initial.text.items ++ bytes_text l.bytes

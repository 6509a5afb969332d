use Rattle.std.proofs.Common.{◌≡◌, take}
use Rattle.ihex.specs.Digits.{bytes_of}
use Rattle.ihex.proofs.digits.read_bytes.Given as goal

abbrev pub invariant-loop-i : goal.invariant-loop-i
invariant-loop-i l = take l.i l.bytes ≡ take l.i (bytes_of l.digits)

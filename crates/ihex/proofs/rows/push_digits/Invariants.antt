use Rattle.std.proofs.Common.{◌≡◌, ◌++◌, drop}
use Rattle.ihex.specs.Store.{digits_of}
use Rattle.ihex.proofs.rows.push_digits.Given as goal

abbrev pub invariant-loop-b : goal.invariant-loop-b
invariant-loop-b l = l.text.items ++ digits_of (drop l.b-index l.bytes) ≡ l.fn.text.items ++ digits_of l.bytes

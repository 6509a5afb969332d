-- What contracts see of a writer: how many calls failed (this profile's own).
use Rattle.std.specs.Prelude.{◌≡◌}
use Rattle.wz_real.specs.declared.standard_out.StdOut.{StdOut}

-- no call failed yet
abbrev pub IsFresh : {W : Type 0} → StdOut W → Type 0
IsFresh out = out.faults ≡ 0

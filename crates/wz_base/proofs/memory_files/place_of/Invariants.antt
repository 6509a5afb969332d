use Rattle.std.proofs.Common.{◌≡◌, drop}
use Rattle.wz_base.specs.Named.{bytes_of_name}
use Rattle.wz_base.proofs.memory_files.place_of.Given as goal

abbrev pub invariant-loop-i : goal.invariant-loop-i
invariant-loop-i l = bytes_of_name (drop l.i l.files) l.name ≡ bytes_of_name l.files l.name

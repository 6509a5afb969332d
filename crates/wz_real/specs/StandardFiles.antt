-- What contracts see of the system's files: how many calls failed, and how many names were not there (this
-- profile's own).
use Rattle.std.specs.Prelude.{◌≡◌}
use Rattle.wz_real.specs.declared.standard_files.StdFiles.{StdFiles}

-- no call was made yet
pub record IsFresh {R F M : Type 0} (files : StdFiles R F M) : Type 0 where
  pub faults : files.faults ≡ 0
  pub misses : files.misses ≡ 0

-- What contracts see of files in memory.
use Rattle.std.specs.Prelude.{ℕ, List, drop}
use Rattle.wz_base.specs.declared.memory_files.MemFiles.{MemFiles}
use Rattle.wz_base.specs.declared.calls.Calls.{Calls}
use Rattle.wz_base.specs.Named.{Named, bytes_at}

-- the files, in the order in which they were given
abbrev pub files_of : MemFiles → List Named
files_of s = s.files.items

-- the bytes of the current file that are still to read
abbrev pub unread_bytes : MemFiles → List ℕ
unread_bytes s = drop s.at (bytes_at s.files.items s.current)

-- the calls so far, each pick and each read
abbrev pub calls_of : MemFiles → Calls
calls_of s = s.calls

-- how many names were asked for and not there
abbrev pub misses_of : MemFiles → ℕ
misses_of s = s.misses

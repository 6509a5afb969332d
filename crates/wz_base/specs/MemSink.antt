-- What contracts see of a sink in memory.
use Rattle.std.specs.Prelude.{◌≡◌, ◌⊎◌, ◌<◌, ℕ, ◌-◌, List, length, vec_len}
use Rattle.wz_base.specs.declared.memory_sink.MemSink.{MemSink}
use Rattle.wz_base.specs.declared.calls.Calls.{Calls}
use Rattle.wz_base.specs.Calls.{IsListed}

-- the bytes that were written
abbrev pub written_bytes : MemSink → List ℕ
written_bytes s = s.bytes.items

-- how many bytes may be written in all
abbrev pub room_of : MemSink → ℕ
room_of s = s.room

-- how many more bytes may be written
abbrev pub spare_of : MemSink → ℕ
spare_of s = s.room - vec_len s.bytes

-- the calls so far
abbrev pub calls_of : MemSink → Calls
calls_of s = s.calls

-- the next write of this piece fails: its number is listed, or the room is full and the piece is not empty
abbrev pub WriteFails : MemSink → List ℕ → Type 0
WriteFails s piece = IsListed s.calls ⊎ ((spare_of s ≡ 0) × (0 < length piece))

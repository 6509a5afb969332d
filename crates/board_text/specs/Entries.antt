-- The text of traces: a head, and a line for each entry of a history.
use Rattle.std.specs.Prelude.{ℕ, ◌/◌, ◌%◌, Bool, false, List, [], ◌∷◌, ◌++◌, map, codes, if◌then◌else◌}
use Rattle.std.specs.Fmt.{decimal}
use Rattle.std.specs.List.{join_with_byte}
use Rattle.board_bus.specs.declared.event.BusEvent.{BusEvent}
use Rattle.board_bus.specs.declared.event.BusEvent.TheVariants.{Select, Byte, Look}
use Rattle.board_bus.specs.declared.event.BusAnswer.{BusAnswer}
use Rattle.board_bus.specs.declared.event.BusAnswer.TheVariants.{Done, Out, Level}
use Rattle.chip_sheet.specs.declared.event.Addr.{Addr}
use Rattle.chip_sheet.specs.declared.event.LinkEntry.{LinkEntry}
use Rattle.chip_sheet.specs.declared.event.LinkEntry.TheVariants.{Linked, Accepted, Refused, TimedOut, Took, Got, Datagram, Ended, Shut, Failed, Dropped}
use Rattle.chip_sheet.specs.declared.event.Entry.{Entry}
use Rattle.chip_sheet.specs.declared.event.Entry.TheVariants.{Bus, Link, Rest}
use Rattle.chip_sheet.specs.Past.{Past}
use Rattle.chip_sheet.specs.Streams.{Starts}
use Rattle.board_text.specs.Answers.{digit}

-- A byte as two hexadecimal digits.
abbrev pub byte_text : ℕ → List ℕ
byte_text v = digit (v / 16) ∷ digit (v % 16) ∷ []

-- Bytes, each as two hexadecimal digits.
abbrev pub bytes_text : List ℕ → List ℕ
bytes_text [] = []
bytes_text (v ∷ more) = byte_text v ++ bytes_text more

-- The four numbers of an address, with a dot between, 46.
abbrev pub address_text : List ℕ → List ℕ
address_text ip = join_with_byte 46 (map decimal ip)

-- An address and its port.
abbrev pub peer_parts : Addr → List (List ℕ)
peer_parts from = address_text from.ip ∷ decimal from.port ∷ []

-- What the link of a socket did, in parts: a word, and what it did it with.
abbrev pub what_parts : LinkEntry → List (List ℕ)
what_parts Linked = codes "linked" ∷ []
what_parts (Accepted from) = codes "accepted" ∷ peer_parts from
what_parts Refused = codes "refused" ∷ []
what_parts TimedOut = codes "timedout" ∷ []
what_parts (Took count) = codes "took" ∷ decimal count ∷ []
what_parts (Got bytes) = codes "got" ∷ bytes_text bytes ∷ []
what_parts (Datagram from body) = codes "datagram" ∷ (peer_parts from ++ bytes_text body ∷ [])
what_parts Ended = codes "ended" ∷ []
what_parts Shut = codes "shut" ∷ []
what_parts Failed = codes "failed" ∷ []
what_parts Dropped = codes "dropped" ∷ []

-- Parts with a colon between, 58.
abbrev pub with_colons : List (List ℕ) → List ℕ
with_colons parts = join_with_byte 58 parts

-- The byte of an answer; an answer that has none is of no legal history.
abbrev pub out_byte : BusAnswer → ℕ
out_byte (Out v) = v
out_byte Done = 0
out_byte (Level high) = 0

-- The level of an answer; an answer that has none is of no legal history.
abbrev pub is_high : BusAnswer → Bool
is_high (Level high) = high
is_high Done = false
is_high (Out v) = false

-- An event of the bus and its answer: 76 is L, 72 is H; 62 is > between the byte on MOSI and the one on MISO; 63 is ?, before 1, 49, or
-- 0, 48.
abbrev pub bus_text : BusEvent → BusAnswer → List ℕ
bus_text (Select low) a = (if low then 76 else 72) ∷ []
bus_text (Byte v) a = byte_text v ++ 62 ∷ byte_text (out_byte a)
bus_text Look a = 63 ∷ (if is_high a then 49 else 48) ∷ []

-- An entry of a history. What the link of a socket did stands behind @, 64, the socket and a colon, 58; a turn in which nothing
-- happened is a dot, 46.
abbrev pub entry_text : Entry → List ℕ
entry_text (Bus e a) = bus_text e a
entry_text (Link n what) = 64 ∷ (decimal n ++ 58 ∷ with_colons (what_parts what))
entry_text Rest = 46 ∷ []

-- The line of an entry, with its line feed, 10.
abbrev pub entry_line : Entry → List ℕ
entry_line entry = entry_text entry ++ 10 ∷ []

-- The lines of what happened, the oldest first.
abbrev pub entries_text : Past → List ℕ
entries_text [] = []
entries_text (entry ∷ past) = entries_text past ++ entry_line entry

-- The first line of a trace: its version, and where the positions of connections begin.
abbrev pub trace_head : Starts → List ℕ
trace_head starts = codes "w5500 trace 1 " ++ decimal starts.tx ++ 32 ∷ (decimal starts.rx ++ 10 ∷ [])

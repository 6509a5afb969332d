-- The report of a run, which stands behind the bytes that the firmware printed. 10 is the line feed, and 32 a space.
use Rattle.std.specs.Prelude.{ℕ, zero, suc, ◌/◌, ◌%◌, ◌==◌, nat_lt, Bool, true, false, List, [], ◌∷◌, ◌++◌, take, count_by, codes, Option, Some, None, if◌then◌else◌}
use Rattle.std.specs.Fmt.{decimal}
use Rattle.std.specs.List.{flat_map}
use Rattle.chip_sheet.specs.declared.event.LinkEntry.{LinkEntry}
use Rattle.chip_sheet.specs.declared.event.LinkEntry.TheVariants.{Failed}
use Rattle.chip_sheet.specs.declared.event.Entry.{Entry}
use Rattle.chip_sheet.specs.declared.event.Entry.TheVariants.{Bus, Link, Rest}
use Rattle.chip_sheet.specs.Past.{Past}
use Rattle.chip_sheet.specs.Streams.{Starts}
use Rattle.chip_core.specs.declared.tally.Tally.{Tally}
use Rattle.chip_core.specs.Chip.{tally_at}
use Rattle.board_text.specs.Entries.{byte_text}
use Rattle.board_text.specs.Firmware.{firmware_text}
use Rattle.board_text.specs.Stops.{stop_text}
use Rattle.board_sim.specs.declared.end.RunEnd.{RunEnd}
use Rattle.board_sim.specs.declared.end.RunEnd.TheVariants as ends

-- The report begins on a line of its own: behind a last byte other than a line feed stands one.
abbrev pub line_end : Option ℕ → List ℕ
line_end None = []
line_end (Some last) = if last == 10 then [] else 10 ∷ []

-- The last byte of some more, or the one before them.
abbrev pub last_behind : Option ℕ → List ℕ → Option ℕ
last_behind last [] = last
last_behind last (byte ∷ bytes) = last_behind (Some byte) bytes

-- How the run ended. No report is printed where a write failed or memory was refused.
abbrev pub kind_text : RunEnd → List ℕ
kind_text ends.Break = codes "break"
kind_text ends.Sleep = codes "sleep"
kind_text ends.CycleLimit = codes "cycle-limit"
kind_text ends.TraceFull = codes "trace-full"
kind_text ends.PollFault = codes "poll-fault"
kind_text ends.WriteFault = codes "write-fault"
kind_text ends.NoMemory = codes "no-memory"
kind_text (ends.Chip stop) = codes "stop " ++ stop_text stop
kind_text (ends.Avr stop) = codes "stop " ++ firmware_text stop

abbrev pub end_line : RunEnd → List ℕ
end_line end = codes "== end " ++ kind_text end ++ 10 ∷ []

-- A line with a number behind its head.
abbrev pub number_line : List ℕ → ℕ → List ℕ
number_line head n = head ++ decimal n ++ 10 ∷ []

-- An event of the bus, an event of a link, which a turn in which nothing happened is not, and a link that failed.
abbrev pub is_bus : Entry → Bool
is_bus (Bus e a) = true
is_bus (Link n what) = false
is_bus Rest = false

abbrev pub is_link : Entry → Bool
is_link (Bus e a) = false
is_link (Link n what) = true
is_link Rest = false

abbrev pub fails : LinkEntry → Bool
fails Failed = true
fails what = false

abbrev pub is_failed : Entry → Bool
is_failed (Bus e a) = false
is_failed (Link n what) = fails what
is_failed Rest = false

-- A socket: its number, what its status register reads as two hexadecimal digits, how many lives it has had, and how many bytes in all of
-- them were passed to SEND, were taken by the link, and came into its RX buffer.
abbrev pub status_text : ℕ → ℕ → List ℕ
status_text n status = codes "== socket " ++ decimal n ++ 32 ∷ byte_text status

abbrev pub tally_text : Tally → List ℕ
tally_text t = 32 ∷ decimal t.lives ++ 32 ∷ decimal t.sent ++ 32 ∷ decimal t.taken ++ 32 ∷ decimal t.got ++ 10 ∷ []

abbrev pub socket_line : ℕ → Tally → List ℕ
socket_line n t = status_text n t.status ++ tally_text t

-- A socket that has had no life has no line.
abbrev pub socket_text : ℕ → Tally → List ℕ
socket_text n t = if nat_lt 0 t.lives then socket_line n t else []

-- The lines of the first so many sockets, rising.
unfoldable pub sockets_text : Starts → Past → ℕ → List ℕ
sockets_text starts past zero = []
sockets_text starts past (suc n) = sockets_text starts past n ++ socket_text n (tally_at starts past n)

-- A word address as four hexadecimal digits behind a space.
abbrev pub address_text : ℕ → List ℕ
address_text at = 32 ∷ byte_text (at / 256) ++ byte_text (at % 256)

-- The word addresses of the last instructions that were started, the oldest first; no more than 16 are kept.
abbrev pub trail_line : List ℕ → List ℕ
trail_line trail = codes "== trail" ++ flat_map address_text (take 16 trail) ++ 10 ∷ []

-- They tell where the firmware stood when it was stopped, by the chip, by the part or by the limit of cycles; of every other end they are
-- not printed.
abbrev pub has_trail : RunEnd → Bool
has_trail (ends.Chip stop) = true
has_trail (ends.Avr stop) = true
has_trail ends.CycleLimit = true
has_trail ends.Break = false
has_trail ends.Sleep = false
has_trail ends.TraceFull = false
has_trail ends.PollFault = false
has_trail ends.WriteFault = false
has_trail ends.NoMemory = false

abbrev pub trail_text : RunEnd → List ℕ → List ℕ
trail_text end trail = if has_trail end then trail_line trail else []

-- The report of a run that has this history, has printed this last byte, took so many cycles, last started these instructions, and ended so.
unfoldable pub report_of : Starts → Past → Option ℕ → ℕ → List ℕ → RunEnd → List ℕ
report_of starts past last cycles trail end =
    line_end last
    ++ end_line end
    ++ number_line (codes "== cycles ") cycles
    ++ number_line (codes "== bus ") (count_by is_bus past)
    ++ number_line (codes "== link ") (count_by is_link past)
    ++ sockets_text starts past 8
    ++ number_line (codes "== faults ") (count_by is_failed past)
    ++ trail_text end trail

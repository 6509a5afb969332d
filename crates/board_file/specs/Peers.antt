-- An entry of `peer`: its rows, and the script that it says.
use Rattle.std.specs.Prelude.{ℕ, List, [], ◌∷◌, map, zip, length, replicate, codes, Option, None, Some, Result, Ok, if◌then◌else◌}
use Rattle.std.specs.Str.{bytes_eq}
use Rattle.toml.specs.Data.{Data, Members}
use Rattle.link_script.specs.declared.peer.PeerKind.{PeerKind}
use Rattle.link_script.specs.declared.peer.PeerKind.TheVariants.{Client, Server, Udp}
use Rattle.link_script.specs.declared.peer.Connects.{Connects}
use Rattle.link_script.specs.declared.peer.Connects.TheVariants.{Fine, Refused, Timeout}
use Rattle.link_script.specs.Scripts.{Said, Script}
use Rattle.board_file.specs.declared.fault.Key.{Key}
use Rattle.board_file.specs.declared.fault.Key.TheVariants as key
use Rattle.board_file.specs.declared.fault.KeyKind.{KeyKind}
use Rattle.board_file.specs.declared.fault.BoardFault.{BoardFault}
use Rattle.board_file.specs.Judged.{◌>>=◌}
use Rattle.board_file.specs.Values.{number, text, numbers, numbers_beside, chunks, required, optional}
use Rattle.board_file.specs.Rows.{says, number_or, chip_row, addr_row, addr_port_row}
use Rattle.board_file.specs.Known.{only_known}

abbrev pub kind_named : List ℕ → Option PeerKind
kind_named name =
    if bytes_eq name (codes "client") then Some Client else
    if bytes_eq name (codes "server") then Some Server else
    if bytes_eq name (codes "udp") then Some Udp else None

abbrev pub connect_named : List ℕ → Option Connects
connect_named name =
    if bytes_eq name (codes "ok") then Some Fine else
    if bytes_eq name (codes "refused") then Some Refused else
    if bytes_eq name (codes "timeout") then Some Timeout else None

abbrev pub kind_row : ℕ → Members → Result PeerKind BoardFault
kind_row = says key.Kind (required (text kind_named))

-- A client and a datagram peer name a port of the chip. A server has none: 0 stands for it.
abbrev pub chip_of : PeerKind → ℕ → Members → Result ℕ BoardFault
chip_of Client entry table = chip_row entry table
chip_of Server entry table = Ok 0
chip_of Udp entry table = chip_row entry table

-- A server alone says what it answers.
abbrev pub connect_of : PeerKind → ℕ → Members → Result Connects BoardFault
connect_of Client entry table = Ok Fine
connect_of Server entry table = says key.Connect (optional Fine (text connect_named)) entry table
connect_of Udp entry table = Ok Fine

abbrev pub takes_row : ℕ → Members → Result (List ℕ) BoardFault
takes_row = says key.Takes (optional [] (numbers 4096 0 65536))

abbrev pub room_row : ℕ → Members → Result ℕ BoardFault
room_row = number_or key.Room 65536 0 16777216

abbrev pub say_row : ℕ → Members → Result (List (List ℕ)) BoardFault
say_row = says key.Say (optional [] (chunks 256 65536))

-- One for each chunk of `say`.
abbrev pub after_row : ℕ → ℕ → Members → Result (List ℕ) BoardFault
after_row many = says key.After (optional (replicate many 0) (numbers_beside many 0 16777216))

abbrev pub some_number : ℕ → ℕ → Data → Result (Option ℕ) KeyKind
some_number least most value = do
  n ← number least most value
  Ok (Some n)

abbrev pub end_row : ℕ → Members → Result (Option ℕ) BoardFault
end_row = says key.End (optional None (some_number 0 16777216))

-- 0 stands for a peer of which no call fails.
abbrev pub fail_row : ℕ → Members → Result ℕ BoardFault
fail_row = number_or key.Fail 0 1 4294967295

abbrev pub lag_row : ℕ → Members → Result ℕ BoardFault
lag_row = number_or key.Lag 0 0 65535

-- The keys of a peer.
abbrev pub peer_keys : PeerKind → List Key
peer_keys Client =
    key.Kind ∷ key.Addr ∷ key.Port ∷ key.Chip ∷ key.Takes ∷ key.Room ∷ key.Say ∷ key.After ∷ key.End ∷ key.Fail ∷ key.Lag ∷ []
peer_keys Server =
    key.Kind ∷ key.Addr ∷ key.Port ∷ key.Connect ∷ key.Takes ∷ key.Room ∷ key.Say ∷ key.After ∷ key.End ∷ key.Fail ∷ key.Lag ∷ []
peer_keys Udp =
    key.Kind ∷ key.Addr ∷ key.Port ∷ key.Chip ∷ key.Takes ∷ key.Room ∷ key.Say ∷ key.After ∷ key.End ∷ key.Fail ∷ key.Lag ∷ []

-- Chunks, each with its number of `after`.
abbrev pub said : List ℕ → List (List ℕ) → List Said
said afters chunks = map (λ p. record { after = p.0; bytes = p.1 }) (zip afters chunks)

-- The bytes that a peer says, each with the count after which it says them.
abbrev pub sayings : ℕ → Members → Result (List Said) BoardFault
sayings entry table = do
  chunks ← say_row entry table
  afters ← after_row (length chunks) entry table
  Ok (said afters chunks)

-- The script that an entry of `peer` says.
abbrev pub peer : ℕ → Members → Result Script BoardFault
peer entry table = do
  kind ← kind_row entry table
  ip ← addr_row entry table
  port ← addr_port_row entry table
  chip ← chip_of kind entry table
  connect ← connect_of kind entry table
  takes ← takes_row entry table
  room ← room_row entry table
  say ← sayings entry table
  end ← end_row entry table
  fail ← fail_row entry table
  lag ← lag_row entry table
  known ← only_known (peer_keys kind) entry table
  Ok (record {
    kind = kind;
    addr = record { ip = ip; port = port };
    chip = chip;
    connect = connect;
    takes = takes;
    room = room;
    say = say;
    end = end;
    fail = fail;
    lag = lag;
  })

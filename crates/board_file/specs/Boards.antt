-- Board files: TOML texts that say how a board is set up, and the first fault of one that says it wrongly. A table's keys are judged
-- in their written order, and last come keys that it does not have.
use Rattle.std.specs.Prelude.{ℕ, ◌≤◌, List, [], ◌∷◌, length, None, ok_or, Result, Ok, if◌then◌else◌}
use Rattle.std.specs.Str.{is_utf8}
use Rattle.toml.specs.Data.{Members}
use Rattle.toml.specs.Parse.{parse_document}
use Rattle.chip_sheet.specs.declared.event.Addr as address
use Rattle.link_trait.specs.Routes.{RouteLists}
use Rattle.link_script.specs.Scripts.{Script}
use Rattle.board_file.specs.declared.fault.Key.{Key}
use Rattle.board_file.specs.declared.fault.Key.TheVariants.{TxStart, RxStart, Events, Cycles, Listen, Route, Peer, Chip, Host, Addr, Port, HostPort, File}
use Rattle.board_file.specs.declared.fault.KeyKind.TheVariants.{BadToml}
use Rattle.board_file.specs.declared.fault.BoardFault.{BoardFault}
use Rattle.board_file.specs.Judged.{◌>>=◌}
use Rattle.board_file.specs.Known.{only_known}
use Rattle.board_file.specs.Rows.{tx_start_row, rx_start_row, events_row, cycles_row, chip_row, listen_host_row, addr_row, addr_port_row, route_host_row, host_port_row}
use Rattle.board_file.specs.Tables.{entries}
use Rattle.board_file.specs.Peers.{peer}

-- An entry of `listen`: the chip's port and the host's.
abbrev pub listen_keys : List Key
listen_keys = Chip ∷ Host ∷ []

abbrev pub listen : ℕ → Members → Result (ℕ × ℕ) BoardFault
listen entry table = do
  chip ← chip_row entry table
  host ← listen_host_row entry table
  known ← only_known listen_keys entry table
  Ok (chip, host)

-- An entry of `route`: the address that the firmware names and the host's.
abbrev pub route_keys : List Key
route_keys = Addr ∷ Port ∷ Host ∷ HostPort ∷ []

abbrev pub route : ℕ → Members → Result (address.Addr × address.Addr) BoardFault
route entry table = do
  ip ← addr_row entry table
  port ← addr_port_row entry table
  host ← route_host_row entry table
  host_port ← host_port_row entry table
  known ← only_known route_keys entry table
  Ok (record { ip = ip; port = port }, record { ip = host; port = host_port })

-- How a board is set up: where positions start, how much the history may weigh and how many cycles the run may take, the routes
-- of a live run, and the peers of a scripted one.
pub record Setup : Type 0 where
  pub tx_start : ℕ
  pub rx_start : ℕ
  pub events : ℕ
  pub cycles : ℕ
  pub routes : RouteLists
  pub peers : List Script

-- The keys of the file itself.
abbrev pub file_keys : List Key
file_keys = TxStart ∷ RxStart ∷ Events ∷ Cycles ∷ Listen ∷ Route ∷ Peer ∷ []

-- The board that a file's table says, or the first fault.
abbrev pub board : Members → Result Setup BoardFault
board file = do
  tx ← tx_start_row 0 file
  rx ← rx_start_row 0 file
  events ← events_row 0 file
  cycles ← cycles_row 0 file
  listens ← entries Listen listen file
  routes ← entries Route route file
  peers ← entries Peer peer file
  known ← only_known file_keys 0 file
  Ok (record {
    tx_start = tx;
    rx_start = rx;
    events = events;
    cycles = cycles;
    routes = record { listens = listens; routes = routes };
    peers = peers;
  })

-- The table that a text is as TOML, which is UTF-8.
abbrev pub document : List ℕ → Result Members BoardFault
document text =
    ok_or (if is_utf8 text then parse_document text else None) (record { key = File; entry = 0; kind = BadToml })

-- The board that a text says, or its first fault.
abbrev pub board_of : List ℕ → Result Setup BoardFault
board_of text = do
  file ← document text
  board file

-- The limits of a run that a board keeps.
pub record IsWithinLimits (setup : Setup) : Type 0 where
  pub some_events : 1 ≤ setup.events
  pub few_events : setup.events ≤ 67108864
  pub some_cycles : 1 ≤ setup.cycles
  pub few_cycles : setup.cycles ≤ 1099511627776
  pub few_peers : length setup.peers ≤ 64

-- The keys of a board file in their written order, a row each: whether it has to be there, what stands for it where it is
-- not, and the values that it may have. Which tables they stand in is told where those are read.
use Rattle.std.specs.Prelude.{ℕ, List, [], ◌∷◌, Option, Result}
use Rattle.toml.specs.Data.{Data, Members, get_member}
use Rattle.board_read.specs.Numbers.{address}
use Rattle.board_file.specs.declared.fault.Key.{Key}
use Rattle.board_file.specs.declared.fault.Key.TheVariants.{TxStart, RxStart, Events, Cycles, Chip, Host, Addr, Port, HostPort}
use Rattle.board_file.specs.declared.fault.KeyKind.{KeyKind}
use Rattle.board_file.specs.declared.fault.BoardFault.{BoardFault}
use Rattle.board_file.specs.Keys.{word}
use Rattle.board_file.specs.Judged.{faulted}
use Rattle.board_file.specs.Values.{number, text, required, optional}

-- What a key says in the entry with this number, which is this table.
abbrev pub says : {A : Type 0} → Key → (Option Data → Result A KeyKind) → ℕ → Members → Result A BoardFault
says key judge entry table = faulted key entry (judge (get_member (word key) table))

-- A number that may be left out: what then stands for it, the least and the most.
abbrev pub number_or : Key → ℕ → ℕ → ℕ → ℕ → Members → Result ℕ BoardFault
number_or key default least most = says key (optional default (number least most))

-- A port that has to be there.
abbrev pub port : Key → ℕ → Members → Result ℕ BoardFault
port key = says key (required (number 1 65535))

-- The file itself.
abbrev pub tx_start_row : ℕ → Members → Result ℕ BoardFault
tx_start_row = number_or TxStart 0 0 65535

abbrev pub rx_start_row : ℕ → Members → Result ℕ BoardFault
rx_start_row = number_or RxStart 0 0 65535

abbrev pub events_row : ℕ → Members → Result ℕ BoardFault
events_row = number_or Events 33554432 1 67108864

abbrev pub cycles_row : ℕ → Members → Result ℕ BoardFault
cycles_row = number_or Cycles 1099511627776 1 1099511627776

-- An entry of `listen` or `route`, or a peer.
abbrev pub chip_row : ℕ → Members → Result ℕ BoardFault
chip_row = port Chip

abbrev pub listen_host_row : ℕ → Members → Result ℕ BoardFault
listen_host_row = port Host

abbrev pub addr_row : ℕ → Members → Result (List ℕ) BoardFault
addr_row = says Addr (required (text address))

abbrev pub addr_port_row : ℕ → Members → Result ℕ BoardFault
addr_port_row = port Port

abbrev pub route_host_row : ℕ → Members → Result (List ℕ) BoardFault
route_host_row = says Host (optional (127 ∷ 0 ∷ 0 ∷ 1 ∷ []) (text address))

abbrev pub host_port_row : ℕ → Members → Result ℕ BoardFault
host_port_row = port HostPort

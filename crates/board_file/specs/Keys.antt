-- The keys of board files, as they are written and printed.
use Rattle.std.specs.Prelude.{ℕ, List, codes}
use Rattle.board_file.specs.declared.fault.Key.{Key}
use Rattle.board_file.specs.declared.fault.Key.TheVariants.{TxStart, RxStart, Events, Cycles, Listen, Route, Peer, Chip, Host, Addr, Port, HostPort, Kind, Connect, Takes, Room, Say, After, End, Fail, Lag, File, Unknown}

abbrev pub word : Key → List ℕ
word TxStart = codes "tx_start"
word RxStart = codes "rx_start"
word Events = codes "events"
word Cycles = codes "cycles"
word Listen = codes "listen"
word Route = codes "route"
word Peer = codes "peer"
word Chip = codes "chip"
word Host = codes "host"
word Addr = codes "addr"
word Port = codes "port"
word HostPort = codes "host_port"
word Kind = codes "kind"
word Connect = codes "connect"
word Takes = codes "takes"
word Room = codes "room"
word Say = codes "say"
word After = codes "after"
word End = codes "end"
word Fail = codes "fail"
word Lag = codes "lag"
word File = codes "file"
word Unknown = codes "unknown"

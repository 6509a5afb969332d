-- The keys of each kind of table in a board file: those that board files are judged by.
use Rattle.std.specs.Prelude.{List}
use Rattle.link_script.specs.declared.peer.PeerKind.TheVariants as kind
use Rattle.board_file.specs.declared.fault.Key.{Key}
use Rattle.board_file.specs.Boards.{file_keys, listen_keys, route_keys}
use Rattle.board_file.specs.Peers.{peer_keys}
use Rattle.board_hints.specs.declared.places.Place.{Place}
use Rattle.board_hints.specs.declared.places.Place.TheVariants as place

abbrev pub keys_of : Place → List Key
keys_of place.File = file_keys
keys_of place.Listen = listen_keys
keys_of place.Route = route_keys
keys_of place.Peer = peer_keys kind.Client
keys_of place.Server = peer_keys kind.Server

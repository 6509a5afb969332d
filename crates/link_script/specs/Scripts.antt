-- The scripts of peers, as contracts see them.
use Rattle.std.specs.Prelude.{ℕ, List, Option}
use Rattle.chip_sheet.specs.declared.event.Addr.{Addr}
use Rattle.link_script.specs.declared.peer.PeerKind.{PeerKind}
use Rattle.link_script.specs.declared.peer.Connects.{Connects}

-- Bytes that a peer says at once, which can be read once so many bytes were given to it.
pub record Said : Type 0 where
  pub after : ℕ
  pub bytes : List ℕ

-- The script of a peer: what it is, where, what it takes, says and fails, and how often it answers NotYet before each move.
pub record Script : Type 0 where
  pub kind : PeerKind
  pub addr : Addr
  pub chip : ℕ
  pub connect : Connects
  pub takes : List ℕ
  pub room : ℕ
  pub say : List Said
  pub end : Option ℕ
  pub fail : ℕ
  pub lag : ℕ

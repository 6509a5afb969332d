-- The socket that a `Life` is, as the definitions have it.
use Rattle.std.specs.Prelude.{◌≡◌, ℕ, ◌/◌, ◌%◌, ◌==◌, List, Some, slice_get, if◌then◌else◌}
use Rattle.chip_sheet.specs.declared.event.Addr.{Addr}
use Rattle.chip_sheet.specs.declared.socket.Cause.{Cause}
use Rattle.chip_sheet.specs.declared.socket.Due.{Due}
use Rattle.chip_sheet.specs.Past.{Past}
use Rattle.chip_sheet.specs.Life as sheet
use Rattle.chip_sheet.specs.LinkCalls.{keeps_address, keeps_port, kept_address, kept_port, outgoing_of, incoming_of}
use Rattle.sock_cmd.specs.declared.life.Life.{Life}

-- Its status, its lives, and what came in the present one.
abbrev pub life_of : Life → sheet.Life
life_of socket = record {
  status = socket.status;
  lives = socket.lives;
  ended = socket.ended;
  shut = socket.shut;
  asked = socket.asked;
  old = socket.to_forget;
}

-- The address and the port that it keeps.
abbrev pub address_of : Life → Addr
address_of socket = socket.address

abbrev pub port_of : Life → ℕ
port_of socket = socket.port

-- This happened to a socket, whose registers held this address and this port.
pub record Happened (before : Life) (why : Cause) (to : Addr) (source : ℕ) (after : Life) : Type 0 where
  pub life : life_of after ≡ sheet.life_after (life_of before) why
  pub address : address_of after ≡ (if keeps_address why (life_of before).status then to else address_of before)
  pub port : port_of after ≡ (if keeps_port why (life_of before).status then source else port_of before)

-- It is socket n after this past.
pub record IsAfter (socket : Life) (past : Past) (n : ℕ) : Type 0 where
  pub life : life_of socket ≡ sheet.life past n
  pub address : address_of socket ≡ kept_address past n
  pub port : port_of socket ≡ kept_port past n

-- The sockets of a list are those of this past, by their places in it.
abbrev pub AllAfter : List Life → Past → Type 0
AllAfter sockets past = (n : ℕ) (socket : Life) → slice_get sockets n ≡ Some socket → IsAfter socket past n

-- The link call that is due at a place, where the socket is the one of that place: 2n is the outgoing place of socket n, and 2n + 1
-- its incoming one.
abbrev pub due_of : ℕ → Life → ℕ → ℕ → Due
due_of place socket flight free =
    if place % 2 == 0 then outgoing_of (place / 2) (life_of socket) (address_of socket) (port_of socket) flight else
    incoming_of (place / 2) (life_of socket) (port_of socket) free

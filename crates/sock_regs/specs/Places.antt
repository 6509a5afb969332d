-- What the places of a socket's register block keep, as functions of a place.
use Rattle.std.specs.Prelude.{ℕ, ◌+◌, ◌-◌, Bool, true, false, not, ◌==◌, ◌&&◌, ◌||◌, nat_le, [], ◌∷◌, Option, Some, None, slice_index, bit_and, bit_or, if◌then◌else◌}
use Rattle.chip_sheet.specs.declared.event.Addr.{Addr}
use Rattle.chip_sheet.specs.declared.event.Entry.{Entry}
use Rattle.chip_sheet.specs.declared.event.Entry.TheVariants.{Link}
use Rattle.chip_sheet.specs.declared.event.LinkEntry.TheVariants.{Accepted}
use Rattle.chip_sheet.specs.Names.{sn_port, sn_dipr, sn_dport}
use Rattle.chip_sheet.specs.Positions.{pair}
use Rattle.chip_sheet.specs.Peers.{peer_bytes}
use Rattle.chip_sheet.specs.SocketBlock.{Shows, Written, Constant, Peer, Raised, socket_place}

-- The registers answer for a place that shows this. The status, the sizes of the windows and the pointers stand elsewhere.
abbrev pub is_kept : Shows → Bool
is_kept Written = true
is_kept Constant = true
is_kept Peer = true
is_kept Raised = true
is_kept shows = false

-- What such a place holds after a byte is written to it, where it held `before`: interrupts lose the bits that are 1 in the byte.
abbrev pub kept : Shows → ℕ → ℕ → ℕ
kept Written v before = v
kept Peer v before = v
kept Raised v before = before - bit_and before v
kept shows v before = before

-- After these bits are raised.
abbrev pub with_bits : Shows → ℕ → ℕ → ℕ
with_bits Raised bits before = bit_or before bits
with_bits shows bits before = before

-- After a peer is accepted from this address.
abbrev pub with_peer : Shows → Addr → ℕ → ℕ → ℕ
with_peer Peer from at before = slice_index (peer_bytes from) (at - sn_dipr)
with_peer shows from at before = before

-- What a place reads after a reset.
abbrev pub reset_value : ℕ → ℕ
reset_value at = (socket_place at).reset

-- What the places hold after a write of a byte to an address, where they held this before.
abbrev pub after_write : ℕ → ℕ → (ℕ → ℕ) → ℕ → ℕ
after_write addr v f at = if addr == at then kept (socket_place at).shows v (f at) else f at

abbrev pub after_raise : ℕ → (ℕ → ℕ) → ℕ → ℕ
after_raise bits f at = with_bits (socket_place at).shows bits (f at)

abbrev pub after_peer : Addr → (ℕ → ℕ) → ℕ → ℕ
after_peer from f at = with_peer (socket_place at).shows from at (f at)

-- What an address reads, where the registers answer for it.
abbrev pub read_at : (ℕ → ℕ) → ℕ → Option ℕ
read_at f addr = if is_kept (socket_place addr).shows then Some (f addr) else None

-- The registers of two bytes and more.
abbrev pub port_in : (ℕ → ℕ) → ℕ
port_in f = pair (f sn_port) (f (sn_port + 1))

abbrev pub address_in : (ℕ → ℕ) → Addr
address_in f = record {
  ip = f sn_dipr ∷ f (sn_dipr + 1) ∷ f (sn_dipr + 2) ∷ f (sn_dipr + 3) ∷ [];
  port = pair (f sn_dport) (f (sn_dport + 1));
}

-- The peer that an entry brings to socket n, if it is the accepting of one.
abbrev pub accepted_by : ℕ → Entry → Option Addr
accepted_by n (Link m (Accepted from)) = if m == n then Some from else None
accepted_by n entry = None

-- The same of an address as ranges, which the code asks: whether the registers answer for it, and whether it keeps a byte as it is.
abbrev pub is_here : ℕ → Bool
is_here addr = not (addr == 0x03 || (nat_le 0x20 addr && nat_le addr 0x2B))

abbrev pub is_stored : ℕ → Bool
is_stored addr =
    addr == 0x00 || (nat_le 0x04 addr && nat_le addr 0x13) || (nat_le 0x15 addr && nat_le addr 0x16)
    || (nat_le 0x1E addr && nat_le addr 0x1F) || (nat_le 0x2C addr && nat_le addr 0x2F)

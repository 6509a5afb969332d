-- The addresses that a socket keeps in its registers (W5500 datasheet, 4.2 Sn_PORT, Sn_DIPR and Sn_DPORT).
use Rattle.std.specs.Prelude.{ℕ, ◌+◌, ◌-◌, ◌==◌, List, [], ◌∷◌, slice_index, unwrap_or, if◌then◌else◌}
use Rattle.chip_sheet.specs.declared.event.Addr.{Addr}
use Rattle.chip_sheet.specs.declared.phase.Access.{Access}
use Rattle.chip_sheet.specs.declared.event.Entry.TheVariants.{Bus, Link, Rest}
use Rattle.chip_sheet.specs.declared.event.LinkEntry.{LinkEntry}
use Rattle.chip_sheet.specs.declared.event.LinkEntry.TheVariants.{Accepted}
use Rattle.chip_sheet.specs.Past.{Past}
use Rattle.chip_sheet.specs.Frames.{access_of}
use Rattle.chip_sheet.specs.Names.{sn_dipr, sn_dport, sn_port}
use Rattle.chip_sheet.specs.Blocks.{registers_of}
use Rattle.chip_sheet.specs.Registers.{is_reset, written_by, written}
use Rattle.chip_sheet.specs.Positions.{byte_of, pair}

-- The bytes of an address as Sn_DIPR and Sn_DPORT show them, and as they stand before a datagram: the four of the address, and the
-- two of the port, the high one first.
abbrev pub peer_bytes : Addr → List ℕ
peer_bytes from =
    slice_index from.ip 0 ∷ slice_index from.ip 1 ∷ slice_index from.ip 2 ∷ slice_index from.ip 3 ∷ byte_of 0 from.port ∷ byte_of 1 from.port ∷ []

abbrev pub accepted_byte : LinkEntry → ℕ → ℕ → ℕ
accepted_byte (Accepted from) at before = slice_index (peer_bytes from) (at - sn_dipr)
accepted_byte what at before = before

abbrev pub peer_written : Access → ℕ → ℕ → ℕ → ℕ → ℕ
peer_written made n at reset before =
    if is_reset made then reset else unwrap_or (written_by made (registers_of n) at) before

-- A byte of Sn_DIPR or Sn_DPORT: the later of the last write and the last accepted peer, since the last reset.
abbrev pub peer_byte : Past → ℕ → ℕ → ℕ → ℕ
peer_byte [] n at reset = reset
peer_byte (Bus e a ∷ past) n at reset = peer_written (access_of past (Bus e a)) n at reset (peer_byte past n at reset)
peer_byte (Link m what ∷ past) n at reset =
    if m == n then accepted_byte what at (peer_byte past n at reset) else peer_byte past n at reset
peer_byte (Rest ∷ past) n at reset = peer_byte past n at reset

-- What Sn_DIPR and Sn_DPORT hold: the destination of CONNECT and of a datagram.
abbrev pub destination : Past → ℕ → Addr
destination past n = record {
  ip = peer_byte past n sn_dipr 0x00 ∷ peer_byte past n (sn_dipr + 1) 0x00 ∷ peer_byte past n (sn_dipr + 2) 0x00 ∷ peer_byte past n (sn_dipr + 3) 0x00 ∷ [];
  port = pair (peer_byte past n sn_dport 0x00) (peer_byte past n (sn_dport + 1) 0x00);
}

-- What Sn_PORT holds.
abbrev pub source_port : Past → ℕ → ℕ
source_port past n = pair (written past n sn_port) (written past n (sn_port + 1))

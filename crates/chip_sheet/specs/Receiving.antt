-- What a socket receives, as lists without bound, and what each step makes of them. No past stands here, as in `Sending`.
use Rattle.std.specs.Prelude.{ℕ, ◌+◌, ◌-◌, ◌%◌, ◌==◌, min, List, [], ◌++◌, length, drop, slice_index, Option, Some, None, if◌then◌else◌}
use Rattle.chip_sheet.specs.Positions.{shown, ahead, byte_of, pair, found_among}

pub record Receiving : Type 0 where
  -- the size of the RX buffer in bytes, 0 to 16,384
  pub size : ℕ
  -- the position of the first byte received
  pub base : ℕ
  -- all bytes that were received in this life, in order; those of a datagram with its header in front
  pub got : List ℕ
  -- how many of the last of them are unread: RECV has not released them
  pub unread : ℕ
  -- the two bytes of Sn_RX_RD
  pub rd_high : ℕ
  pub rd_low : ℕ

-- How many of the received bytes are no longer unread.
abbrev pub released_count : Receiving → ℕ
released_count g = length g.got - g.unread

-- The positions of the first unread byte, and behind the last byte received.
abbrev pub first_unread : Receiving → ℕ
first_unread g = g.base + released_count g

abbrev pub next_to_receive : Receiving → ℕ
next_to_receive g = g.base + length g.got

-- The unread bytes, in order.
abbrev pub unread_bytes : Receiving → List ℕ
unread_bytes g = drop (released_count g) g.got

-- What is free of the buffer.
abbrev pub free_size : Receiving → ℕ
free_size g = g.size - g.unread

-- How many bytes a link call may bring in: what is free in one piece, up to the end of the buffer, and 1,472 at most.
abbrev pub room_length : Receiving → ℕ
room_length g = min (free_size g) (min 1472 (g.size - next_to_receive g % g.size))

-- Sn_RX_RD: up to where RECV releases.
abbrev pub rx_rd : Receiving → ℕ
rx_rd g = pair g.rd_high g.rd_low

-- The unread byte, counted from the first, that stands at the place of an address of the buffer, if one does.
abbrev pub unread_at : Receiving → ℕ → Option ℕ
unread_at g addr = found_among (first_unread g) g.unread g.size addr

-- The byte of the buffer at an address: the unread byte there, and 00 where there is none.
abbrev pub unread_byte : Receiving → Option ℕ → ℕ
unread_byte g None = 0
unread_byte g (Some j) = slice_index g.got (released_count g + j)

abbrev pub rx_byte : Receiving → ℕ → ℕ
rx_byte g addr = unread_byte g (unread_at g addr)

-- How far RECV goes, from the end of the last one to Sn_RX_RD.
abbrev pub release_length : Receiving → ℕ
release_length g = ahead (first_unread g) (rx_rd g)

-- What the registers at 26 to 2B show: Sn_RX_RSR, Sn_RX_RD and Sn_RX_WR (datasheet, 4.2).
abbrev pub rx_pointer : Receiving → ℕ → ℕ
rx_pointer g addr =
    if addr == 0x26 then byte_of 0 g.unread else
    (if addr == 0x27 then byte_of 1 g.unread else
    (if addr == 0x28 then g.rd_high else
    (if addr == 0x29 then g.rd_low else
    (if addr == 0x2A then byte_of 0 (shown (next_to_receive g)) else
    (if addr == 0x2B then byte_of 1 (shown (next_to_receive g)) else 0)))))

-- After bytes that fit were received: they stand behind the others, unread.
abbrev pub after_got : Receiving → List ℕ → Receiving
after_got g bytes = record g { got = g.got ++ bytes; unread = g.unread + length bytes }

-- After a RECV within the unread bytes.
abbrev pub after_release : Receiving → Receiving
after_release g = record g { unread = g.unread - release_length g }

-- After the window was emptied, as a life that closes does: nothing is unread, and the pointers stay.
abbrev pub after_empty : Receiving → Receiving
after_empty g = record g { unread = 0 }

-- After a life or a connection begins at this position: nothing was received, and both pointers stand there.
abbrev pub after_begin : Receiving → ℕ → Receiving
after_begin g base = record g { base = base; got = []; unread = 0; rd_high = byte_of 0 base; rd_low = byte_of 1 base }

-- After a write of a byte of Sn_RX_RD, 28 or 29. At any other address nothing changes.
abbrev pub after_pointer : Receiving → ℕ → ℕ → Receiving
after_pointer g addr v = record g {
  rd_high = if addr == 0x28 then v else g.rd_high;
  rd_low = if addr == 0x29 then v else g.rd_low;
}

-- After a change of an RX size, of this socket or another, which is made while nothing is unread.
abbrev pub after_resize : Receiving → ℕ → Receiving
after_resize g size = record g { size = size }

-- As it is after a reset, with a buffer of this size: every pointer is 0, and no life has begun.
abbrev pub fresh : ℕ → Receiving
fresh size = record { size = size; base = 0; got = []; unread = 0; rd_high = 0; rd_low = 0 }

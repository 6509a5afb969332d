-- What a socket sends, as lists without bound, and what each step makes of them. No past stands here: a body that holds bytes and
-- pointers is laid beside these records, and the sheet's own definitions over a past are laid beside them once.
use Rattle.std.specs.Prelude.{ℕ, zero, suc, ◌+◌, ◌-◌, ◌%◌, Bool, ◌==◌, ◌&&◌, nat_lt, min, List, [], ◌∷◌, ◌++◌, length, drop, Option, if◌then◌else◌}
use Rattle.chip_sheet.specs.Positions.{shown, ahead, byte_of, pair, found_among, has_between}

pub record Sending : Type 0 where
  -- the size of the TX buffer in bytes, 0 to 16,384
  pub size : ℕ
  -- its byte at a position or an address
  pub tx : ℕ → ℕ
  -- the position of the first byte sent
  pub base : ℕ
  -- all bytes that were passed to SEND in this life, in order
  pub sent : List ℕ
  -- how many of the last of them are in flight: the link has not taken them
  pub flight : ℕ
  -- where each SEND ended: how many bytes were sent once it was made
  pub ends : List ℕ
  -- the two bytes of Sn_TX_WR
  pub wr_high : ℕ
  pub wr_low : ℕ

-- How many of the sent bytes are no longer in flight.
abbrev pub taken_count : Sending → ℕ
taken_count s = length s.sent - s.flight

-- The positions of the first byte in flight, and behind the last byte sent.
abbrev pub first_in_flight : Sending → ℕ
first_in_flight s = s.base + taken_count s

abbrev pub next_to_send : Sending → ℕ
next_to_send s = s.base + length s.sent

-- The bytes in flight, in order.
abbrev pub in_flight : Sending → List ℕ
in_flight s = drop (taken_count s) s.sent

-- How many of them stand in one piece, up to the end of the buffer.
abbrev pub offered_length : Sending → ℕ
offered_length s = min s.flight (s.size - first_in_flight s % s.size)

-- What is free of the buffer.
abbrev pub free_size : Sending → ℕ
free_size s = s.size - s.flight

-- Sn_TX_WR: up to where SEND sends.
abbrev pub tx_wr : Sending → ℕ
tx_wr s = pair s.wr_high s.wr_low

-- The byte in flight, counted from the first, that stands at the place of an address of the buffer, if one does.
abbrev pub in_flight_at : Sending → ℕ → Option ℕ
in_flight_at s addr = found_among (first_in_flight s) s.flight s.size addr

-- So many bytes of a buffer, from a position on.
abbrev pub bytes_from : (ℕ → ℕ) → ℕ → ℕ → List ℕ
bytes_from tx at zero = []
bytes_from tx at (suc count) = tx at ∷ bytes_from tx (at + 1) count

-- How many bytes a SEND takes, from the end of the last one to Sn_TX_WR, and which: those in the buffer at that moment.
abbrev pub range_length : Sending → ℕ
range_length s = ahead (next_to_send s) (tx_wr s)

abbrev pub range : Sending → List ℕ
range s = bytes_from s.tx (next_to_send s) (range_length s)

-- The next so many bytes taken reach or pass the end of a SEND.
abbrev pub passes_end : Sending → ℕ → Bool
passes_end s count = has_between (taken_count s) (taken_count s + count) s.ends

-- What the registers at 20 to 25 show: Sn_TX_FSR, Sn_TX_RD and Sn_TX_WR (datasheet, 4.2).
abbrev pub tx_pointer : Sending → ℕ → ℕ
tx_pointer s addr =
    if addr == 0x20 then byte_of 0 (free_size s) else
    (if addr == 0x21 then byte_of 1 (free_size s) else
    (if addr == 0x22 then byte_of 0 (shown (next_to_send s)) else
    (if addr == 0x23 then byte_of 1 (shown (next_to_send s)) else
    (if addr == 0x24 then s.wr_high else
    (if addr == 0x25 then s.wr_low else 0)))))

-- After a write of a byte to the buffer: each position at its place shows it. A buffer of size 0 takes nothing.
abbrev pub written_byte : Sending → ℕ → ℕ → ℕ → ℕ
written_byte s addr v at = if nat_lt 0 s.size && at % s.size == addr % s.size then v else s.tx at

abbrev pub after_write : Sending → ℕ → ℕ → Sending
after_write s addr v = record s { tx = written_byte s addr v }

-- After a SEND that fits: its bytes are in flight, and its end is kept.
abbrev pub after_commit : Sending → Sending
after_commit s = record s {
  sent = s.sent ++ range s;
  flight = s.flight + range_length s;
  ends = s.ends ++ (length s.sent + range_length s) ∷ [];
}

-- After the link took the next so many bytes.
abbrev pub after_taken : Sending → ℕ → Sending
after_taken s count = record s { flight = s.flight - count }

-- After the window was emptied, as a life that closes does: nothing is in flight, and the pointers stay.
abbrev pub after_empty : Sending → Sending
after_empty s = record s { flight = 0 }

-- After a life or a connection begins at this position: nothing was sent, and both pointers stand there.
abbrev pub after_begin : Sending → ℕ → Sending
after_begin s base = record s {
  base = base;
  sent = [];
  flight = 0;
  ends = [];
  wr_high = byte_of 0 base;
  wr_low = byte_of 1 base;
}

-- After a write of a byte of Sn_TX_WR, 24 or 25. At any other address nothing changes.
abbrev pub after_pointer : Sending → ℕ → ℕ → Sending
after_pointer s addr v = record s {
  wr_high = if addr == 0x24 then v else s.wr_high;
  wr_low = if addr == 0x25 then v else s.wr_low;
}

-- After a change of a TX size, of this socket or another: the whole memory of the direction is cleared.
abbrev pub after_resize : Sending → ℕ → Sending
after_resize s size = record s { size = size; tx = λ at. 0 }

-- As it is after a reset, with a buffer of this size: every byte and pointer is 0, and no life has begun.
abbrev pub fresh : ℕ → Sending
fresh size = record { size = size; tx = λ at. 0; base = 0; sent = []; flight = 0; ends = []; wr_high = 0; wr_low = 0 }

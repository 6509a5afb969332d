-- The two windows of a socket, the bytes in flight and the unread ones, and the pointers that show them (W5500 datasheet, 4.2
-- Sn_TX_FSR, Sn_TX_RD, Sn_RX_RSR, Sn_RX_WR).
use Rattle.std.specs.Prelude.{ℕ, ◌+◌, ◌-◌, ◌%◌, Bool, true, false, ◌||◌, min, List, [], ◌∷◌, length, drop, take, slice_index, Option, Some, None, if◌then◌else◌}
use Rattle.chip_sheet.specs.declared.socket.Status.{Status}
use Rattle.chip_sheet.specs.declared.socket.Cause.{Cause}
use Rattle.chip_sheet.specs.declared.socket.Cause.TheVariants as because
use Rattle.chip_sheet.specs.Past.{Past}
use Rattle.chip_sheet.specs.Life.{cause, status, lives, begins}
use Rattle.chip_sheet.specs.Positions.{shown, found_among}
use Rattle.chip_sheet.specs.Sizes.{tx_size, rx_size}
use Rattle.chip_sheet.specs.Streams.{Starts, sent, taken, got, released, tx_base, rx_base, is_open}

-- Bytes in flight: passed to SEND and not taken by the link. There are none where the socket is not open.
abbrev pub flight : Starts → Past → ℕ → ℕ
flight starts past n =
    if is_open (status past n) then length (sent starts past n (lives past n)) - taken past n (lives past n) else 0

-- Unread bytes: received and not released. There are none where the socket is not open.
abbrev pub unread : Starts → Past → ℕ → ℕ
unread starts past n =
    if is_open (status past n) then length (got starts past n (lives past n)) - released starts past n (lives past n) else 0

-- What is free of each buffer.
abbrev pub tx_free : Starts → Past → ℕ → ℕ
tx_free starts past n = tx_size past n - flight starts past n

abbrev pub rx_free : Starts → Past → ℕ → ℕ
rx_free starts past n = rx_size past n - unread starts past n

-- An accepted OPEN stands since the last reset.
abbrev pub opened_after : Cause → Status → Bool → Bool
opened_after because.Reset status before = false
opened_after why status before = begins why status || before

abbrev pub is_opened : Past → ℕ → Bool
is_opened [] n = false
is_opened (entry ∷ past) n = opened_after (cause past n entry) (status past n) (is_opened past n)

-- The positions behind the last byte sent, and behind the last received, in the latest life.
abbrev pub sent_position : Starts → Past → ℕ → ℕ
sent_position starts past n = tx_base starts past n (lives past n) + length (sent starts past n (lives past n))

abbrev pub received_position : Starts → Past → ℕ → ℕ
received_position starts past n = rx_base starts past n (lives past n) + length (got starts past n (lives past n))

-- Sn_TX_RD shows the end of the last SEND, and Sn_RX_WR the end of the received bytes.
abbrev pub tx_rd : Starts → Past → ℕ → ℕ
tx_rd starts past n = if is_opened past n then shown (sent_position starts past n) else 0

abbrev pub rx_wr : Starts → Past → ℕ → ℕ
rx_wr starts past n = if is_opened past n then shown (received_position starts past n) else 0

-- The byte in flight, counted from the first, that stands at the place of an address of the TX buffer, if one does.
abbrev pub in_flight_at : Starts → Past → ℕ → ℕ → Option ℕ
in_flight_at starts past n addr =
    found_among (tx_base starts past n (lives past n) + taken past n (lives past n)) (flight starts past n) (tx_size past n) addr

-- The unread byte, counted from the first, that stands at the place of an address of the RX buffer, if one does.
abbrev pub unread_at : Starts → Past → ℕ → ℕ → Option ℕ
unread_at starts past n addr =
    found_among (rx_base starts past n (lives past n) + released starts past n (lives past n)) (unread starts past n) (rx_size past n) addr

-- The byte of the RX buffer at an address: the unread byte there. What lies outside the unread bytes reads 00 (this profile's
-- own, because a link may leave anything in memory that it is lent).
abbrev pub unread_byte : Starts → Past → ℕ → Option ℕ → ℕ
unread_byte starts past n None = 0
unread_byte starts past n (Some j) = slice_index (got starts past n (lives past n)) (released starts past n (lives past n) + j)

abbrev pub rx_byte : Starts → Past → ℕ → ℕ → ℕ
rx_byte starts past n addr = unread_byte starts past n (unread_at starts past n addr)

-- The bytes in flight, in order.
abbrev pub in_flight : Starts → Past → ℕ → List ℕ
in_flight starts past n =
    if is_open (status past n) then drop (taken past n (lives past n)) (sent starts past n (lives past n)) else []

-- The position of the first byte in flight.
abbrev pub first_in_flight : Starts → Past → ℕ → ℕ
first_in_flight starts past n = tx_base starts past n (lives past n) + taken past n (lives past n)

-- How many of them are offered to the link at once: those up to the end of the buffer (this profile's own).
abbrev pub offered_length : Starts → Past → ℕ → ℕ
offered_length starts past n =
    min (flight starts past n) (tx_size past n - first_in_flight starts past n % tx_size past n)

-- The bytes that are offered.
abbrev pub offered : Starts → Past → ℕ → List ℕ
offered starts past n = take (offered_length starts past n) (in_flight starts past n)

-- A link call carries at most so many bytes in.
abbrev pub most_read : ℕ
most_read = 1472

-- How many bytes a link call may read into the RX buffer at once: what is free, up to the end of the buffer (this profile's own).
abbrev pub room_length : Starts → Past → ℕ → ℕ
room_length starts past n =
    min (rx_free starts past n) (min most_read (rx_size past n - received_position starts past n % rx_size past n))

-- What the laws say of the present life of a socket, by name.
use Rattle.std.specs.Prelude.{◌≡◌, ◌≤◌, ◌<◌, ◌==◌, ℕ, ◌+◌, ◌-◌, ◌%◌, Bool, true, false, ◌⊎◌, List, ◌∷◌, ◌++◌, length, take, slice_index, if◌then◌else◌}
use Rattle.board_bus.specs.declared.event.BusEvent.{BusEvent}
use Rattle.chip_sheet.specs.declared.event.Addr.{Addr}
use Rattle.chip_sheet.specs.declared.event.Entry.{Entry}
use Rattle.chip_sheet.specs.declared.event.Entry.TheVariants.{Link}
use Rattle.chip_sheet.specs.declared.event.LinkEntry.{LinkEntry}
use Rattle.chip_sheet.specs.declared.phase.Access.TheVariants.{Write}
use Rattle.chip_sheet.specs.declared.socket.Status.TheVariants.{Established, FinWait, CloseWait, LastAck, Udp}
use Rattle.chip_sheet.specs.declared.socket.Interrupt.TheVariants.{Received}
use Rattle.chip_sheet.specs.declared.socket.Due.{Due}
use Rattle.chip_sheet.specs.declared.socket.Due.TheVariants as due
use Rattle.chip_sheet.specs.Past.{Past}
use Rattle.chip_sheet.specs.Frames.{access}
use Rattle.chip_sheet.specs.Blocks.{registers_of}
use Rattle.chip_sheet.specs.Names.{sn_cr, send_command}
use Rattle.chip_sheet.specs.Life.{status, lives, is_closed, is_udp}
use Rattle.chip_sheet.specs.Sizes.{tx_size, rx_size}
use Rattle.chip_sheet.specs.Streams.{Starts, sent, range, range_length, taken, got, released, tx_byte, tx_base, rx_base, header}
use Rattle.chip_sheet.specs.Windows.{flight, tx_free, rx_free, rx_byte, offered, offered_length, room_length}
use Rattle.chip_sheet.specs.Interrupts.{raised_by}
use Rattle.chip_sheet.specs.LinkCalls.{outgoing, incoming, connection, kept_address, kept_port}
use Rattle.chip_sheet.specs.LinkAnswers.{LinkAnswer, entry_by, may_answer}
use Rattle.chip_sheet.specs.Legal.{FitsAfter}

-- What was sent and taken in the present life of socket n, and what was received and released.
abbrev pub sent_now : Starts → Past → ℕ → List ℕ
sent_now starts past n = sent starts past n (lives past n)

abbrev pub taken_now : Past → ℕ → ℕ
taken_now past n = taken past n (lives past n)

abbrev pub got_now : Starts → Past → ℕ → List ℕ
got_now starts past n = got starts past n (lives past n)

abbrev pub released_now : Starts → Past → ℕ → ℕ
released_now starts past n = released starts past n (lives past n)

-- The bytes of the range that a SEND would pass, and their number.
abbrev pub range_now : Starts → Past → ℕ → List ℕ
range_now starts past n = range starts past n (length (sent starts past n (lives past n)))

abbrev pub range_length_now : Starts → Past → ℕ → ℕ
range_length_now starts past n = range_length starts past n (length (sent starts past n (lives past n)))

-- The event writes SEND to the command register of socket n.
abbrev pub WritesSend : Past → BusEvent → ℕ → Type 0
WritesSend past e n = access past e ≡ Write (registers_of n) sn_cr send_command

-- The life is the present one of a socket that is not closed.
abbrev pub IsPresent : Past → ℕ → ℕ → Type 0
IsPresent past n life = (lives past n ≡ life) × (is_closed (status past n) ≡ false)

-- The position of some byte in flight has the place of this address in a TX buffer that has a size.
abbrev pub HasInFlight : Starts → Past → ℕ → ℕ → Type 0
HasInFlight starts past n addr =
    (0 < tx_size past n)
    × ((j : ℕ) × (j < flight starts past n) × ((tx_base starts past n (lives past n) + taken past n (lives past n) + j) % tx_size past n ≡ addr % tx_size past n))

-- Both sizes of socket k are after the entry what they were before it.
abbrev pub SizesStay : Past → Entry → ℕ → Type 0
SizesStay past entry k = (tx_size (entry ∷ past) k ≡ tx_size past k) × (rx_size (entry ∷ past) k ≡ rx_size past k)

-- The address has the place of the byte that was received as number q of the present life.
abbrev pub IsPlaceOfGot : Starts → Past → (n q addr : ℕ) → Type 0
IsPlaceOfGot starts past n q addr = addr % rx_size past n ≡ (rx_base starts past n (lives past n) + q) % rx_size past n

-- The call is due on socket n; the link may answer it so, within what is offered and what may be read at once.
abbrev pub IsDue : Starts → Past → ℕ → Due → Type 0
IsDue starts past n call = (outgoing starts past n ≡ call) ⊎ (incoming starts past n ≡ call)

abbrev pub MayAnswer : Starts → Past → ℕ → Due → LinkAnswer → Type 0
MayAnswer starts past n call answer = may_answer call (offered_length starts past n) (room_length starts past n) answer ≡ true

-- What is in flight is due: a write, or in UDP a datagram to the kept address.
abbrev pub FlightIsDue : Starts → Past → ℕ → Type 0
FlightIsDue starts past n =
    (outgoing starts past n ≡ due.Write (connection n (lives past n))) ⊎ (outgoing starts past n ≡ due.SendTo (connection n (lives past n)) (kept_port past n) (kept_address past n))

-- The status is one in which a connection carries bytes, or UDP.
abbrev pub Carries : Past → ℕ → Type 0
Carries past n =
    (status past n ≡ Established) ⊎ ((status past n ≡ FinWait) ⊎ ((status past n ≡ CloseWait) ⊎ ((status past n ≡ LastAck) ⊎ (status past n ≡ Udp))))

-- What an address of the TX buffer reads once a byte is written to another: that byte, where both have one place.
abbrev pub byte_now : Past → (n addr v at : ℕ) → ℕ
byte_now past n addr v at = if addr % tx_size past n == at % tx_size past n then v else tx_byte past n at

-- A link event adds these bytes to what was received, and RECV rises; it adds nothing, and RECV does not rise.
abbrev pub Receives : Starts → Past → ℕ → LinkEntry → List ℕ → Type 0
Receives starts past n what bytes =
    (got starts (Link n what ∷ past) n (lives past n) ≡ got starts past n (lives past n) ++ bytes) × (raised_by starts past n Received (Link n what) ≡ true)

abbrev pub Loses : Starts → Past → ℕ → LinkEntry → Type 0
Loses starts past n what =
    (got starts (Link n what ∷ past) n (lives past n) ≡ got starts past n (lives past n)) × (raised_by starts past n Received (Link n what) ≡ false)

-- The byte number q of the present life was received and is not released.
abbrev pub IsUnread : Starts → Past → ℕ → ℕ → Type 0
IsUnread starts past n q = (released_now starts past n ≤ q) × (q < length (got_now starts past n))

-- The byte in flight with this number, the first one having 0.
abbrev pub flight_byte : Starts → Past → ℕ → ℕ → ℕ
flight_byte starts past n j = slice_index (sent_now starts past n) (taken_now past n + j)

-- The entry that the answer adds fits.
abbrev pub AnswerFits : Starts → Past → ℕ → Due → LinkAnswer → Type 0
AnswerFits starts past n call answer = FitsAfter starts past (entry_by n (flight starts past n) call answer)

-- With k of the offered bytes more, what the link took is what it took before and those.
abbrev pub GivesOffered : Starts → Past → ℕ → ℕ → Type 0
GivesOffered starts past n k =
    take (taken_now past n + k) (sent_now starts past n) ≡ take (taken_now past n) (sent_now starts past n) ++ take k (offered starts past n)

-- In UDP no datagram is in flight; the range of a SEND fits what is free.
abbrev pub IsIdleInUdp : Starts → Past → ℕ → Type 0
IsIdleInUdp starts past n = is_udp (status past n) ≡ true → flight starts past n ≡ 0

abbrev pub RangeFits : Starts → Past → ℕ → Type 0
RangeFits starts past n = range_length_now starts past n ≤ tx_free starts past n

-- The entry adds exactly the range of a SEND to what was sent in the life that was the present one before it.
abbrev pub SendsRange : Starts → Past → Entry → ℕ → Type 0
SendsRange starts past entry n = sent starts (entry ∷ past) n (lives past n) ≡ sent_now starts past n ++ range_now starts past n

-- A datagram behind its header.
abbrev pub with_header : Addr → List ℕ → List ℕ
with_header from body = header from (length body) ++ body

-- The address of the RX buffer reads the byte that was received as number q of the present life.
abbrev pub ReadsGot : Starts → Past → (n q addr : ℕ) → Type 0
ReadsGot starts past n q addr = rx_byte starts past n addr ≡ slice_index (got_now starts past n) q

-- A datagram with this body and its header fits what is free of the RX buffer.
abbrev pub HasFree : Starts → Past → ℕ → List ℕ → Type 0
HasFree starts past n body = 8 + length body ≤ rx_free starts past n

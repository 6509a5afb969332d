-- What a link event makes of the registers, SIR and the life of its socket, and which bits of Sn_IR it raises where it moves no bytes.
use Rattle.std.specs.Prelude.{◌≡◌, ◌≢◌, ℕ, ◌+◌, ◌∷◌, Bool, true, false, Option, Some, None, slice_index_or, if◌then◌else◌}
use Rattle.chip_sheet.specs.declared.event.Addr.{Addr}
use Rattle.chip_sheet.specs.declared.event.Entry.TheVariants.{Link}
use Rattle.chip_sheet.specs.declared.event.LinkEntry.{LinkEntry}
use Rattle.chip_sheet.specs.declared.event.LinkEntry.TheVariants.{Accepted, Refused, TimedOut, Ended, Shut, Failed, Dropped}
use Rattle.chip_sheet.specs.declared.socket.Status.{Status}
use Rattle.chip_sheet.specs.declared.socket.Cause.{Cause}
use Rattle.chip_sheet.specs.declared.socket.Interrupt.{Interrupt}
use Rattle.chip_sheet.specs.declared.socket.Interrupt.TheVariants.{Connected, Disconnected, TimedOut as TimeOut}
use Rattle.chip_sheet.specs.Past.{Past}
use Rattle.chip_sheet.specs.Streams.{Starts}
use Rattle.chip_sheet.specs.Sending as sends
use Rattle.chip_sheet.specs.Sending.{Sending}
use Rattle.chip_sheet.specs.Receiving as receives
use Rattle.chip_sheet.specs.Receiving.{Receiving}
use Rattle.chip_sheet.specs.Interrupts.{bit_value, interrupts_by, raised_by_life}
use Rattle.chip_sheet.specs.Life.{happening}
use Rattle.sock_regs.specs.Places.{after_peer}
use Rattle.sock_cmd.specs.declared.life.Life.{Life}
use Rattle.sock_cmd.specs.Lives.{IsAfter}
use Rattle.chip_parts.specs.declared.parts.Parts.{Parts}
use Rattle.chip_parts.specs.Holding.{Shows}

-- The event moves no bytes and makes no connection.
abbrev pub is_told : LinkEntry → Bool
is_told Refused = true
is_told TimedOut = true
is_told Ended = true
is_told Shut = true
is_told Failed = true
is_told Dropped = true
is_told what = false

-- The peer that it brings, if it is the accepting of one.
abbrev pub peer_of : LinkEntry → Option Addr
peer_of (Accepted from) = Some from
peer_of what = None

abbrev pub with_peer : Option Addr → (ℕ → ℕ) → ℕ → ℕ
with_peer None f at = f at
with_peer (Some from) f at = after_peer from f at

-- Both windows, which are empty unless the socket is open.
abbrev pub sent_kept : Bool → Sending → Sending
sent_kept live s = if live then s else sends.after_empty s

abbrev pub got_kept : Bool → Receiving → Receiving
got_kept live g = if live then g else receives.after_empty g

-- The bits that the table of socket life raises, as a byte.
abbrev pub value_where : Bool → Interrupt → ℕ
value_where so bit = if so then bit_value bit else 0

abbrev pub life_bits : Cause → Status → ℕ
life_bits why at =
    value_where (raised_by_life why Connected at) Connected + (value_where (raised_by_life why Disconnected at) Disconnected + value_where (raised_by_life why TimeOut at) TimeOut)

-- Two events are the same to the registers and the life of their socket.
pub record SameToLife (what other : LinkEntry) : Type 0 where
  pub happening : happening what ≡ happening other
  pub peer : peer_of what ≡ peer_of other

-- The registers, SIR and the lives of these parts are those that the event leaves, where the lives were these before.
pub record Noted (starts : Starts) (past : Past) (what : LinkEntry) (sn : ℕ) (old new : Parts) : Type 0 where
  pub shows : Shows starts new (Link sn what ∷ past)
  pub life : (other : Life) → IsAfter (slice_index_or new.lives sn other) (Link sn what ∷ past) sn
  pub other_lives : (m : ℕ) (other : Life) → m ≢ sn → slice_index_or new.lives m other ≡ slice_index_or old.lives m other

-- Where the old parts show the registers and SIR of this past and keep the life of socket sn, and the event raises these bits of it, the
-- new parts are noted.
abbrev pub NotesAt : Starts → Past → LinkEntry → (sn bits : ℕ) → Parts → Parts → Type 0
NotesAt starts past what sn bits old new =
    Shows starts old past → ((other : Life) → IsAfter (slice_index_or old.lives sn other) past sn) → bits ≡ interrupts_by starts past sn (Link sn what)
    → Noted starts past what sn old new

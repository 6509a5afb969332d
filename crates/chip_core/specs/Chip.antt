-- The chip stands for what happened on its bus and its links.
use Rattle.std.specs.Prelude.{◌≡◌, ◌⊎◌, ◌<◌, ◌^◌, ℕ, Bool, List, slice_index_or, Option, Some, None, ◌∷◌}
use Rattle.std.specs.Borrow.{Lends, MutBor, Fml, Array, u8}
use Rattle.board_bus.specs.declared.event.BusEvent.{BusEvent}
use Rattle.board_bus.specs.declared.event.BusAnswer.{BusAnswer}
use Rattle.chip_sheet.specs.declared.stop.ChipStop.{ChipStop}
use Rattle.chip_sheet.specs.declared.event.Entry.TheVariants.{Bus}
use Rattle.chip_sheet.specs.declared.event.LinkEntry.{LinkEntry}
use Rattle.chip_sheet.specs.Past.{Past}
use Rattle.chip_sheet.specs.Life.{status, lives, status_code}
use Rattle.chip_sheet.specs.Streams.{Starts}
use Rattle.chip_sheet.specs.Connections.{sent_in_all, taken_in_all, got_in_all}
use Rattle.chip_sheet.specs.declared.phase.Access.{Access}
use Rattle.chip_sheet.specs.declared.phase.Access.TheVariants.{Read}
use Rattle.chip_sheet.specs.Answers.{answer, byte_out}
use Rattle.chip_sheet.specs.Stops.{stop}
use Rattle.chip_sheet.specs.Legal.{Legal}
use Rattle.spi_frame.specs.Framer.{framer_of}
use Rattle.sock_cmd.specs.declared.life.Life.{Life}
use Rattle.sock_cmd.specs.Lives.{life_of}
use Rattle.ring_mem.specs.Buffers as ring
use Rattle.chip_parts.specs.Holding.{Holds, ClosedIsEmpty}
use Rattle.chip_links.specs.Fitting as links
use Rattle.chip_links.specs.Lent as lent
use Rattle.chip_core.specs.Counting.{AllCounted, SmallCounts}
use Rattle.chip_core.specs.declared.chip.Chip.{Chip}
use Rattle.chip_core.specs.declared.tally.Tally.{Tally}
use Rattle.chip_core.specs.contracts.chip.Chip.{the_row}

-- The chip stands for this past, where positions start so: the past is one that may come, and all that the chip keeps is what it
-- leaves. So whoever has a chip that stands for a past may use each law of such pasts.
pub record Stands (starts : Starts) (chip : Chip) (past : Past) : Type 0 where
  pub legal : Legal starts past
  pub framer : chip.framer ≡ framer_of past
  pub parts : Holds starts chip.parts past
  pub counts : AllCounted starts chip.counts past

-- What the accesses of a chip reach is what this past leaves.
pub record Inside (starts : Starts) (chip : Chip) (past : Past) : Type 0 where
  pub legal : Legal starts past
  pub parts : Holds starts chip.parts past
  pub counts : AllCounted starts chip.counts past

-- An event whose access this is has no stop, its byte on MISO is this, and what accesses reach is what the past with it leaves.
pub record Exchanged (starts : Starts) (past : Past) (e : BusEvent) (a : BusAnswer) (made : Access) (out : ℕ) (new : Chip) : Type 0 where
  pub allowed : stop starts past e ≡ None
  pub byte : out ≡ byte_out starts past made
  pub parts : Holds starts new.parts (Bus e a ∷ past)
  pub counts : AllCounted starts new.counts (Bus e a ∷ past)

-- Where accesses of the old chip reach what this past leaves, the event is exchanged.
abbrev pub Exchanges : Starts → Past → BusEvent → BusAnswer → Access → ℕ → Chip → Chip → Type 0
Exchanges starts past e a made out old new = Inside starts old past → Exchanged starts past e a made out new

-- The event that reads this address of a block has no stop, and its byte on MISO is this.
abbrev pub ReadsOut : Starts → Past → BusEvent → (block addr out : ℕ) → Type 0
ReadsOut starts past e block addr out = (stop starts past e ≡ None) × (out ≡ byte_out starts past (Read block addr))

-- Where the positions of this chip's connections start.
abbrev pub starts_of : Chip → Starts
starts_of chip = record { tx = chip.parts.tx_start; rx = chip.parts.rx_start }

-- The stop that the chip has answered, if it has.
abbrev pub stop_kept : Chip → Option ChipStop
stop_kept chip = chip.stopped

-- The chip with this stop kept, and all else as it is.
abbrev pub with_stop : Chip → ChipStop → Chip
with_stop chip s = record chip { stopped = Some s }

-- The counts of the chip's lives and bytes leave room for one event more.
pub record Few (chip : Chip) : Type 0 where
  -- fewer than 2^60 lives of each socket
  pub lives : (n : ℕ) (other : Life) → n < 8 → (life_of (slice_index_or chip.parts.lives n other)).lives < 2 ^ 60
  -- each count is below 2^100
  pub counts : SmallCounts chip.counts
  -- no byte is in flight or unread on a socket that is closed
  pub windows : ClosedIsEmpty chip.parts

-- The event has no stop, the chip gives its answer, and stands for the past with this event.
pub record Answered (starts : Starts) (old : Chip) (past : Past) (e : BusEvent) (a : BusAnswer) (new : Chip) : Type 0 where
  pub unstopped : stop_kept old ≡ None
  pub allowed : stop starts past e ≡ None
  pub is : a ≡ answer starts past e
  pub stands : Stands starts new (Bus e a ∷ past)
  pub goes_on : stop_kept new ≡ None

-- The chip gives this stop: one that it kept, or that of the event. Nothing but the kept stop changes.
pub record Stopped (starts : Starts) (old : Chip) (past : Past) (e : BusEvent) (s : ChipStop) (new : Chip) : Type 0 where
  pub cause : (stop_kept old ≡ Some s) ⊎ ((stop_kept old ≡ None) × (stop starts past e ≡ Some s))
  pub same : new ≡ with_stop old s
  pub kept : stop_kept new ≡ Some s
  pub stands : Stands starts new past

-- A link event of socket n fits, as the chip's own fields say it.
abbrev pub fits_here : Chip → ℕ → LinkEntry → Bool
fits_here chip n what = links.fits_here chip.parts n what

-- How many bytes of the RX buffer of socket n are lent at once, and what stands there.
abbrev pub room_len : Chip → ℕ → ℕ
room_len chip n = ring.room_len chip.parts.rings n

abbrev pub room_bytes : Chip → ℕ → List ℕ
room_bytes chip n = lent.room_bytes chip.parts n

-- The chip with these bytes in place of those.
abbrev pub with_room : Chip → ℕ → List ℕ → Chip
with_room chip n w = record chip { parts = lent.with_room chip.parts n w }

abbrev pub LendsRoom : MutBor Chip → ℕ → MutBor (List ℕ) → Fml
LendsRoom s n r = Lends the_row (Array u8 0) s r (with_room s.now n)

-- The state of socket n after this past, and its counts over all of its lives.
abbrev pub tally_at : Starts → Past → ℕ → Tally
tally_at starts past n = record {
  status = status_code (status past n);
  lives = lives past n;
  sent = sent_in_all starts past n;
  taken = taken_in_all past n;
  got = got_in_all starts past n;
}

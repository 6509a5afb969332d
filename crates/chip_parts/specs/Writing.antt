-- What a write of a byte to a block comes to.
use Rattle.std.specs.Prelude.{◌≡◌, ◌==◌, ◌||◌, ℕ, Bool, Some, None, ◌∷◌, if◌then◌else◌, slice_index_or}
use Rattle.board_bus.specs.declared.event.BusEvent.{BusEvent}
use Rattle.board_bus.specs.declared.event.BusAnswer.{BusAnswer}
use Rattle.chip_sheet.specs.declared.event.Entry.TheVariants.{Bus}
use Rattle.chip_sheet.specs.declared.phase.Access.TheVariants.{Write}
use Rattle.chip_sheet.specs.declared.stop.ChipStop.{ChipStop}
use Rattle.chip_sheet.specs.declared.socket.Cause.{Cause}
use Rattle.chip_sheet.specs.Past.{Past}
use Rattle.chip_sheet.specs.Frames.{access}
use Rattle.chip_sheet.specs.Blocks.{registers_of}
use Rattle.chip_sheet.specs.Interrupts.{interrupts_by}
use Rattle.chip_sheet.specs.Legal.{Legal}
use Rattle.chip_sheet.specs.Life.{cause}
use Rattle.chip_sheet.specs.Sizes.{tx_sizes, rx_sizes, resizes}
use Rattle.chip_sheet.specs.Streams.{Starts}
use Rattle.chip_sheet.specs.Stops.{stop}
use Rattle.sock_cmd.specs.declared.life.Life.{Life}
use Rattle.sock_cmd.specs.Lives.{IsAfter}
use Rattle.chip_parts.specs.declared.parts.Parts.{Parts}
use Rattle.chip_parts.specs.Holding.{Holds, Shows, OthersUntouched}
use Rattle.chip_parts.specs.Passing.{passed}

-- An event that writes a byte to the block with these select bits went, passed so many bytes to SEND on the socket whose registers the
-- block is, and none on any other, and left these parts.
pub record AfterWrite (starts : Starts) (past : Past) (e : BusEvent) (a : BusAnswer) (bits k : ℕ) (new : Parts) : Type 0 where
  pub allowed : stop starts past e ≡ None
  pub passes : (n : ℕ) → passed starts past n (cause past n (Bus e a)) ≡ (if bits == registers_of n then k else 0)
  pub stands : Holds starts new (Bus e a ∷ past)

-- This is so of each past that the parts stand for, and of an event that writes this byte to the block with these select bits.
abbrev pub AtByte : Parts → (bits addr v : ℕ) → ((starts : Starts) (past : Past) (e : BusEvent) (a : BusAnswer) → Type 0) → Type 0
AtByte parts bits addr v so = (starts : Starts) (past : Past) (e : BusEvent) (a : BusAnswer) → Holds starts parts past → access past e ≡ Write bits addr v → so starts past e a

-- The same where the past is legal.
abbrev pub AtLegalByte : Parts → (bits addr v : ℕ) → ((starts : Starts) (past : Past) (e : BusEvent) (a : BusAnswer) → Type 0) → Type 0
AtLegalByte parts bits addr v so =
    (starts : Starts) (past : Past) (e : BusEvent) (a : BusAnswer) → Legal starts past → Holds starts parts past → access past e ≡ Write bits addr v → so starts past e a

-- The event has no stop, and leaves these parts.
abbrev pub Goes : Parts → Starts → Past → BusEvent → BusAnswer → Type 0
Goes new starts past e a = (stop starts past e ≡ None) × Holds starts new (Bus e a ∷ past)

-- Such an event has this stop, at each past that the parts stand for.
abbrev pub Refuses : Parts → (bits addr v : ℕ) → ChipStop → Type 0
Refuses parts bits addr v s = (starts : Starts) (past : Past) (e : BusEvent) → Holds starts parts past → access past e ≡ Write bits addr v → stop starts past e ≡ Some s

-- The same where the past is legal.
abbrev pub RefusesLegal : Parts → (bits addr v : ℕ) → ChipStop → Type 0
RefusesLegal parts bits addr v s =
    (starts : Starts) (past : Past) (e : BusEvent) → Legal starts past → Holds starts parts past → access past e ≡ Write bits addr v → stop starts past e ≡ Some s

-- The event changes the size of a buffer.
abbrev pub changes_a_size : Past → BusEvent → Bool
changes_a_size past e = resizes past rx_sizes (access past e) || resizes past tx_sizes (access past e)

-- At each past whose registers and SIR the old parts show: an event that writes this byte to the registers of socket sn, raises these bits
-- of it and touches no other socket leaves those that the new parts show.
abbrev pub StepsRegisters : Parts → (sn addr v bits : ℕ) → Parts → Type 0
StepsRegisters old sn addr v bits new =
    (starts : Starts) (past : Past) (e : BusEvent) (a : BusAnswer) → Shows starts old past → access past e ≡ Write (registers_of sn) addr v
    → bits ≡ interrupts_by starts past sn (Bus e a) → OthersUntouched past (Bus e a) sn → Shows starts new (Bus e a ∷ past)

-- The life that the parts keep of socket sn is that which this past leaves.
abbrev pub HasLife : Parts → ℕ → Past → Type 0
HasLife parts sn past = (other : Life) → IsAfter (slice_index_or parts.lives sn other) past sn

-- The event has no stop, passes so many bytes to SEND on socket sn where it is this for it, and leaves these parts.
abbrev pub Passes : ℕ → ℕ → Cause → Parts → Starts → Past → BusEvent → BusAnswer → Type 0
Passes sn k why new starts past e a = (stop starts past e ≡ None) × (k ≡ passed starts past sn why) × Holds starts new (Bus e a ∷ past)

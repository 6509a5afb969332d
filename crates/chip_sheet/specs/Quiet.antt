-- What stays of a socket when an entry does not concern it.
use Rattle.std.specs.Prelude.{◌≡◌, ℕ, List, Bool, false, ◌==◌, ◌∷◌, Option}
use Rattle.chip_sheet.specs.declared.event.Addr.{Addr}
use Rattle.chip_sheet.specs.declared.event.Entry.{Entry}
use Rattle.chip_sheet.specs.declared.phase.Access.{Access}
use Rattle.chip_sheet.specs.declared.phase.Access.TheVariants.{NoAccess, Read, Write}
use Rattle.chip_sheet.specs.declared.socket.Cause.TheVariants as because
use Rattle.chip_sheet.specs.declared.socket.Interrupt.{Interrupt}
use Rattle.chip_sheet.specs.Past.{Past}
use Rattle.chip_sheet.specs.Frames.{access_of}
use Rattle.chip_sheet.specs.Blocks.{registers_of, tx_buffer_of}
use Rattle.chip_sheet.specs.Registers.{last_written}
use Rattle.chip_sheet.specs.Life.{life, cause}
use Rattle.chip_sheet.specs.Sizes.{tx_sizes, rx_sizes, resizes}
use Rattle.chip_sheet.specs.Peers.{peer_byte}
use Rattle.chip_sheet.specs.Streams.{Starts, sent, ends, destinations, taken, supplied, got, released, is_made}
use Rattle.chip_sheet.specs.Windows.{flight, unread, is_opened}
use Rattle.chip_sheet.specs.Buffers.{sending, receiving}
use Rattle.chip_sheet.specs.Interrupts.{interrupts_by, raised}
use Rattle.chip_sheet.specs.LinkCalls.{kept_address, kept_port, outgoing, incoming}

-- An access writes to this block.
abbrev pub writes_to : Access → ℕ → Bool
writes_to NoAccess bits = false
writes_to (Read block addr) bits = false
writes_to (Write block addr v) bits = block == bits

-- An entry that is nothing for socket n leaves its life, its lists and counts, its windows, and what it keeps for the link, and
-- raises none of its bits.
pub record LeavesLife (starts : Starts) (past : Past) (entry : Entry) (n : ℕ) : Type 0 where
  pub life : life (entry ∷ past) n ≡ life past n
  pub sent : (life : ℕ) → sent starts (entry ∷ past) n life ≡ sent starts past n life
  pub ends : (life : ℕ) → ends starts (entry ∷ past) n life ≡ ends starts past n life
  pub destinations : (life : ℕ) → destinations starts (entry ∷ past) n life ≡ destinations starts past n life
  pub taken : (life : ℕ) → taken (entry ∷ past) n life ≡ taken past n life
  pub supplied : (life : ℕ) → supplied (entry ∷ past) n life ≡ supplied past n life
  pub got : (life : ℕ) → got starts (entry ∷ past) n life ≡ got starts past n life
  pub released : (life : ℕ) → released starts (entry ∷ past) n life ≡ released starts past n life
  pub made : (life : ℕ) → is_made (entry ∷ past) n life ≡ is_made past n life
  pub opened : is_opened (entry ∷ past) n ≡ is_opened past n
  pub flight : flight starts (entry ∷ past) n ≡ flight starts past n
  pub unread : unread starts (entry ∷ past) n ≡ unread starts past n
  pub address : kept_address (entry ∷ past) n ≡ kept_address past n
  pub port : kept_port (entry ∷ past) n ≡ kept_port past n
  pub bits : interrupts_by starts past n entry ≡ 0

-- An entry does not touch socket n: it is nothing for it, writes neither to its registers nor to its TX buffer, and changes no size.
pub record Untouched (past : Past) (entry : Entry) (n : ℕ) : Type 0 where
  pub nothing : cause past n entry ≡ because.Nothing
  pub registers : writes_to (access_of past entry) (registers_of n) ≡ false
  pub buffer : writes_to (access_of past entry) (tx_buffer_of n) ≡ false
  pub tx_sizes : resizes past tx_sizes (access_of past entry) ≡ false
  pub rx_sizes : resizes past rx_sizes (access_of past entry) ≡ false

-- It leaves all of the socket.
pub record LeavesAll (starts : Starts) (past : Past) (entry : Entry) (n : ℕ) : Type 0 where
  pub life : LeavesLife starts past entry n
  pub registers : (at : ℕ) → last_written (entry ∷ past) (registers_of n) at ≡ last_written past (registers_of n) at
  pub peer : (at reset : ℕ) → peer_byte (entry ∷ past) n at reset ≡ peer_byte past n at reset
  pub bits : (bit : Interrupt) → raised starts (entry ∷ past) n bit ≡ raised starts past n bit
  pub sending : sending starts (entry ∷ past) n ≡ sending starts past n
  pub receiving : receiving starts (entry ∷ past) n ≡ receiving starts past n
  pub outgoing : outgoing starts (entry ∷ past) n ≡ outgoing starts past n
  pub incoming : incoming starts (entry ∷ past) n ≡ incoming starts past n

-- An entry leaves the lists and counts of a life of socket n.
pub record LeavesOther (starts : Starts) (past : Past) (entry : Entry) (n life : ℕ) : Type 0 where
  pub sent : sent starts (entry ∷ past) n life ≡ sent starts past n life
  pub taken : taken (entry ∷ past) n life ≡ taken past n life
  pub got : got starts (entry ∷ past) n life ≡ got starts past n life
  pub supplied : supplied (entry ∷ past) n life ≡ supplied past n life
  pub destinations : destinations starts (entry ∷ past) n life ≡ destinations starts past n life
  pub released : released starts (entry ∷ past) n life ≡ released starts past n life

-- The common register block, block 0 (W5500 datasheet, 3.1 and 4.1), to be laid beside the datasheet's table.
use Rattle.std.specs.Prelude.{ℕ, ◌+◌, ◌-◌, ◌&&◌, nat_le, nat_lt, List, [], ◌∷◌, length, slice_index, if◌then◌else◌}
use Rattle.chip_sheet.specs.Names.{mr, gar, subr, shar, sipr, intlevel, ir, imr, sir, simr, rtr, rcr, ptimer, pmagic, phar, psid, pmru, uipr, uportr, phycfgr, versionr}

-- What a register does with a byte that is written to it.
pub data Rule : Type 0 where
  -- it keeps the byte
  Stored : Rule
  -- it keeps what it shows: a write has no effect
  ReadOnly : Rule
  -- it keeps bits 7..3; bits 2..0 always show a link at 100 Mbit/s, full duplex (this profile's own)
  LinkUp : Rule

-- A register: its first place, what its places read after a reset, the byte of the lower place first, and its rule.
pub record Register : Type 0 where
  pub place : ℕ
  pub reset : List ℕ
  pub rule : Rule

abbrev register : ℕ → List ℕ → Rule → Register
register place reset rule = record { place = place; reset = reset; rule = rule }

-- A register of several bytes has its high byte at the lower place. IR never shows a bit, since unreachable ports, address
-- conflicts, PPPoE and magic packets are not modelled. SIR
-- stands here with its value after a reset; what it reads is said in `Interrupts`.
abbrev pub common_registers : List Register
common_registers =
    -- mode
    register mr (0x00 ∷ []) Stored ∷
    -- gateway address
    register gar (0x00 ∷ 0x00 ∷ 0x00 ∷ 0x00 ∷ []) Stored ∷
    -- subnet mask
    register subr (0x00 ∷ 0x00 ∷ 0x00 ∷ 0x00 ∷ []) Stored ∷
    -- source hardware address
    register shar (0x00 ∷ 0x00 ∷ 0x00 ∷ 0x00 ∷ 0x00 ∷ 0x00 ∷ []) Stored ∷
    -- source address
    register sipr (0x00 ∷ 0x00 ∷ 0x00 ∷ 0x00 ∷ []) Stored ∷
    -- interrupt assert wait time
    register intlevel (0x00 ∷ 0x00 ∷ []) Stored ∷
    -- interrupt
    register ir (0x00 ∷ []) ReadOnly ∷
    -- interrupt mask
    register imr (0x00 ∷ []) Stored ∷
    -- socket interrupt
    register sir (0x00 ∷ []) ReadOnly ∷
    -- socket interrupt mask
    register simr (0x00 ∷ []) Stored ∷
    -- retransmission time
    register rtr (0x07 ∷ 0xD0 ∷ []) Stored ∷
    -- retransmission count
    register rcr (0x08 ∷ []) Stored ∷
    -- PPP link control protocol request timer
    register ptimer (0x28 ∷ []) Stored ∷
    -- PPP link control protocol magic number
    register pmagic (0x00 ∷ []) Stored ∷
    -- PPP destination hardware address
    register phar (0x00 ∷ 0x00 ∷ 0x00 ∷ 0x00 ∷ 0x00 ∷ 0x00 ∷ []) Stored ∷
    -- PPP session identification
    register psid (0x00 ∷ 0x00 ∷ []) Stored ∷
    -- PPP maximum segment size
    register pmru (0xFF ∷ 0xFF ∷ []) Stored ∷
    -- unreachable address
    register uipr (0x00 ∷ 0x00 ∷ 0x00 ∷ 0x00 ∷ []) ReadOnly ∷
    -- unreachable port
    register uportr (0x00 ∷ 0x00 ∷ []) ReadOnly ∷
    -- PHY configuration
    register phycfgr (0xBF ∷ []) LinkUp ∷
    -- chip version
    register versionr (0x04 ∷ []) ReadOnly ∷
    []

-- One place of a block: what it reads after a reset, and its rule.
pub record Place : Type 0 where
  pub reset : ℕ
  pub rule : Rule

-- A place of no register is reserved: it reads 00, and a write has no effect.
abbrev pub reserved : Place
reserved = record { reset = 0x00; rule = ReadOnly }

-- The place at an address.
abbrev pub place_in : List Register → ℕ → Place
place_in [] addr = reserved
place_in (r ∷ rs) addr =
    if nat_le r.place addr && nat_lt addr (r.place + length r.reset) then
    record { reset = slice_index r.reset (addr - r.place); rule = r.rule } else
    place_in rs addr

-- The place of the common register block at an address.
unfoldable pub common_place : ℕ → Place
common_place addr = place_in common_registers addr

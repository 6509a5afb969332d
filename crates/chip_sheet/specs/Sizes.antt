-- The sizes of the buffers (W5500 datasheet, 4.2 Sn_RXBUF_SIZE and Sn_TXBUF_SIZE). A direction is named by the place of its size
-- registers.
use Rattle.std.specs.Prelude.{ℕ, ◌+◌, ◌*◌, Bool, not, ◌==◌, ◌&&◌, ◌||◌, nat_le, List, [], ◌∷◌, true, false, unwrap_or, map, slice_index, if◌then◌else◌}
use Rattle.chip_sheet.specs.declared.phase.Access.{Access}
use Rattle.chip_sheet.specs.declared.phase.Access.TheVariants.{NoAccess, Read, Write}
use Rattle.chip_sheet.specs.declared.block.Block.{Block}
use Rattle.chip_sheet.specs.declared.block.Block.TheVariants.{Registers}
use Rattle.chip_sheet.specs.Past.{Past}
use Rattle.chip_sheet.specs.Names.{sn_rxbuf_size, sn_txbuf_size}
use Rattle.chip_sheet.specs.Blocks.{sockets, registers_of, block_of}
use Rattle.chip_sheet.specs.Registers.{last_written}

abbrev pub rx_sizes : ℕ
rx_sizes = sn_rxbuf_size

abbrev pub tx_sizes : ℕ
tx_sizes = sn_txbuf_size

-- What the size register of socket n holds, in kilobytes: 2 after a reset.
abbrev pub kilobytes : Past → ℕ → ℕ → ℕ
kilobytes past sizes n = unwrap_or (last_written past (registers_of n) sizes) 2

abbrev pub is_size : ℕ → Bool
is_size k = k == 0 || k == 1 || k == 2 || k == 4 || k == 8 || k == 16

abbrev pub all_sizes : List ℕ → Bool
all_sizes [] = true
all_sizes (k ∷ more) = is_size k && all_sizes more

abbrev pub total : List ℕ → ℕ
total [] = 0
total (k ∷ more) = k + total more

-- The eight sizes of a direction fit its memory of 16 KB.
abbrev pub are_valid : List ℕ → Bool
are_valid ks = all_sizes ks && nat_le (total ks) 16

abbrev pub sizes_valid : Past → ℕ → Bool
sizes_valid past sizes = are_valid (map (kilobytes past sizes) sockets)

-- The size in bytes of a buffer of k kilobytes, where these are the sizes of its direction: 0 while they are not valid (this
-- profile's own).
abbrev pub size_in : List ℕ → ℕ → ℕ
size_in ks k = if are_valid ks then k * 1024 else 0

-- That of socket n, whose size stands in the list.
abbrev pub size_among : List ℕ → ℕ → ℕ
size_among ks n = size_in ks (slice_index ks n)

-- The size of a buffer in bytes.
abbrev pub size : Past → ℕ → ℕ → ℕ
size past sizes n = size_in (map (kilobytes past sizes) sockets) (kilobytes past sizes n)

abbrev pub tx_size : Past → ℕ → ℕ
tx_size past n = size past tx_sizes n

abbrev pub rx_size : Past → ℕ → ℕ
rx_size past n = size past rx_sizes n

-- A write that changes a size register of this direction.
abbrev pub resizes_block : Past → ℕ → Block → ℕ → ℕ → Bool
resizes_block past sizes (Registers n) addr v = addr == sizes && not (v == kilobytes past sizes n)
resizes_block past sizes block addr v = false

abbrev pub resizes : Past → ℕ → Access → Bool
resizes past sizes NoAccess = false
resizes past sizes (Read bits addr) = false
resizes past sizes (Write bits addr v) = resizes_block past sizes (block_of bits) addr v

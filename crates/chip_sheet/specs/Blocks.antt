-- Which block the block select bits name (W5500 datasheet, 2.2.2 control phase, BSB).
use Rattle.std.specs.Prelude.{ℕ, ◌+◌, ◌*◌, ◌/◌, ◌%◌, ◌==◌, List, [], ◌∷◌, if◌then◌else◌}
use Rattle.chip_sheet.specs.declared.block.Block.{Block}
use Rattle.chip_sheet.specs.declared.block.Block.TheVariants.{Common, Registers, TxBuffer, RxBuffer, Reserved}

-- The eight sockets.
abbrev pub sockets : List ℕ
sockets = 0 ∷ 1 ∷ 2 ∷ 3 ∷ 4 ∷ 5 ∷ 6 ∷ 7 ∷ []

-- The select bits of the register block of socket n, of its TX buffer and of its RX buffer.
abbrev pub registers_of : ℕ → ℕ
registers_of n = 4 * n + 1

abbrev pub tx_buffer_of : ℕ → ℕ
tx_buffer_of n = 4 * n + 2

abbrev pub rx_buffer_of : ℕ → ℕ
rx_buffer_of n = 4 * n + 3

-- The block of these select bits. What is left of 0 to 31 is reserved.
abbrev pub block_of : ℕ → Block
block_of bits =
    if bits == 0 then Common else
    (if bits % 4 == 1 then Registers (bits / 4) else
    (if bits % 4 == 2 then TxBuffer (bits / 4) else
    (if bits % 4 == 3 then RxBuffer (bits / 4) else Reserved)))

-- The two directions of a socket after a past, as the records whose steps name no past.
use Rattle.std.specs.Prelude.{ℕ, ◌+◌, [], if◌then◌else◌}
use Rattle.chip_sheet.specs.Past.{Past}
use Rattle.chip_sheet.specs.Names.{sn_tx_wr, sn_rx_rd}
use Rattle.chip_sheet.specs.Life.{lives}
use Rattle.chip_sheet.specs.Positions.{byte_of}
use Rattle.chip_sheet.specs.Sizes.{tx_size, rx_size}
use Rattle.chip_sheet.specs.Sending.{Sending}
use Rattle.chip_sheet.specs.Receiving.{Receiving}
use Rattle.chip_sheet.specs.Streams.{Starts, tx_byte, tx_base, rx_base, sent, ends, got, pointer_byte}
use Rattle.chip_sheet.specs.Windows.{flight, unread, is_opened}

-- What socket n sends. From a reset to the next OPEN there is no life whose lists count: those of the last one stay, but the buffers
-- are cleared and the pointers are 0.
abbrev pub sending : Starts → Past → ℕ → Sending
sending starts past n = record {
  size = tx_size past n;
  tx = tx_byte past n;
  base = if is_opened past n then tx_base starts past n (lives past n) else 0;
  sent = if is_opened past n then sent starts past n (lives past n) else [];
  flight = flight starts past n;
  ends = if is_opened past n then ends starts past n (lives past n) else [];
  wr_high = pointer_byte past n sn_tx_wr (byte_of 0 starts.tx);
  wr_low = pointer_byte past n (sn_tx_wr + 1) (byte_of 1 starts.tx);
}

-- What socket n receives.
abbrev pub receiving : Starts → Past → ℕ → Receiving
receiving starts past n = record {
  size = rx_size past n;
  base = if is_opened past n then rx_base starts past n (lives past n) else 0;
  got = if is_opened past n then got starts past n (lives past n) else [];
  unread = unread starts past n;
  rd_high = pointer_byte past n sn_rx_rd (byte_of 0 starts.rx);
  rd_low = pointer_byte past n (sn_rx_rd + 1) (byte_of 1 starts.rx);
}

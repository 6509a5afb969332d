use Rattle.ring_mem.proofs.Lending.{lent_stands, lent_bytes}
use Rattle.chip_sheet.specs.Buffers.{receiving}
use Rattle.chip_links.proofs.laws.room_is_lent.Goals as goal

pub returns-clause-holds : goal.returns-clause-holds
returns-clause-holds c = λ starts past parts n w below held same. record {
  tx_start = held.tx_start;
  rx_start = held.rx_start;
  common = held.common;
  shows = record { registers = held.shows.registers; sir = held.shows.sir };
  lives = held.lives;
  tx = held.tx;
  rx = λ m within. lent_stands parts.rings.rx n m (receiving starts past m) w below within (held.rx m within) same;
  tx_sizes = held.tx_sizes;
  rx_sizes = held.rx_sizes;
}

pub returns-clause-bytes : goal.returns-clause-bytes
returns-clause-bytes c = λ parts n w below same. lent_bytes parts.rings.rx n w below same

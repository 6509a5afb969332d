use Rattle.chip_sheet.specs.SocketBlock.{socket_register}
use Rattle.chip_parts.proofs.Sizing.{changes_rx, changes_tx, changes_none}
use Rattle.chip_parts.proofs.parts.Parts.resizes.Goals as goal

pub returns-then-addr-eq-RX_SIZE : goal.returns-then-addr-eq-RX_SIZE
returns-then-addr-eq-RX_SIZE c = λ starts past e held is.
    let sn = c.args.sn in
    changes_rx starts past e sn c.args.addr c.args.v c.rx_kilobytes.result is c.if-addr-eq-RX_SIZE.true (c.rx_kilobytes.ensures (socket_register starts past sn) (held.shows.registers sn _ c.requires))

pub returns-then-addr-eq-TX_SIZE : goal.returns-then-addr-eq-TX_SIZE
returns-then-addr-eq-TX_SIZE c = λ starts past e held is.
    let sn = c.args.sn in
    changes_tx starts past e sn c.args.addr c.args.v c.tx_kilobytes.result is c.if-addr-eq-TX_SIZE.true (c.tx_kilobytes.ensures (socket_register starts past sn) (held.shows.registers sn _ c.requires))

pub returns-else-addr-eq-TX_SIZE : goal.returns-else-addr-eq-TX_SIZE
returns-else-addr-eq-TX_SIZE c = λ starts past e held is. changes_none past e c.args.sn c.args.addr c.args.v is c.if-addr-eq-RX_SIZE.false c.if-addr-eq-TX_SIZE.false

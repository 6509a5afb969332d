-- The registers by the datasheet's names, each by its first place, that of its high byte; and the commands and protocols of a socket
-- (W5500 datasheet, 4.1 and 4.2).
use Rattle.std.specs.Prelude.{ℕ}

-- The common register block.
abbrev pub mr : ℕ
mr = 0x00

abbrev pub gar : ℕ
gar = 0x01

abbrev pub subr : ℕ
subr = 0x05

abbrev pub shar : ℕ
shar = 0x09

abbrev pub sipr : ℕ
sipr = 0x0F

abbrev pub intlevel : ℕ
intlevel = 0x13

abbrev pub ir : ℕ
ir = 0x15

abbrev pub imr : ℕ
imr = 0x16

abbrev pub sir : ℕ
sir = 0x17

abbrev pub simr : ℕ
simr = 0x18

abbrev pub rtr : ℕ
rtr = 0x19

abbrev pub rcr : ℕ
rcr = 0x1B

abbrev pub ptimer : ℕ
ptimer = 0x1C

abbrev pub pmagic : ℕ
pmagic = 0x1D

abbrev pub phar : ℕ
phar = 0x1E

abbrev pub psid : ℕ
psid = 0x24

abbrev pub pmru : ℕ
pmru = 0x26

abbrev pub uipr : ℕ
uipr = 0x28

abbrev pub uportr : ℕ
uportr = 0x2C

abbrev pub phycfgr : ℕ
phycfgr = 0x2E

abbrev pub versionr : ℕ
versionr = 0x39

-- The register block of a socket.
abbrev pub sn_mr : ℕ
sn_mr = 0x00

abbrev pub sn_cr : ℕ
sn_cr = 0x01

abbrev pub sn_ir : ℕ
sn_ir = 0x02

abbrev pub sn_sr : ℕ
sn_sr = 0x03

abbrev pub sn_port : ℕ
sn_port = 0x04

abbrev pub sn_dhar : ℕ
sn_dhar = 0x06

abbrev pub sn_dipr : ℕ
sn_dipr = 0x0C

abbrev pub sn_dport : ℕ
sn_dport = 0x10

abbrev pub sn_mssr : ℕ
sn_mssr = 0x12

abbrev pub sn_tos : ℕ
sn_tos = 0x15

abbrev pub sn_ttl : ℕ
sn_ttl = 0x16

abbrev pub sn_rxbuf_size : ℕ
sn_rxbuf_size = 0x1E

abbrev pub sn_txbuf_size : ℕ
sn_txbuf_size = 0x1F

abbrev pub sn_tx_fsr : ℕ
sn_tx_fsr = 0x20

abbrev pub sn_tx_rd : ℕ
sn_tx_rd = 0x22

abbrev pub sn_tx_wr : ℕ
sn_tx_wr = 0x24

abbrev pub sn_rx_rsr : ℕ
sn_rx_rsr = 0x26

abbrev pub sn_rx_rd : ℕ
sn_rx_rd = 0x28

abbrev pub sn_rx_wr : ℕ
sn_rx_wr = 0x2A

abbrev pub sn_imr : ℕ
sn_imr = 0x2C

abbrev pub sn_frag : ℕ
sn_frag = 0x2D

abbrev pub sn_kpalvtr : ℕ
sn_kpalvtr = 0x2F

-- The protocols in bits 3..0 of Sn_MR that this profile knows.
abbrev pub tcp : ℕ
tcp = 1

abbrev pub udp : ℕ
udp = 2

abbrev pub macraw : ℕ
macraw = 4

-- Bit 7 of Sn_MR: multicast, where the protocol is UDP.
abbrev pub multi : ℕ
multi = 0x80

-- The commands of Sn_CR.
abbrev pub open_command : ℕ
open_command = 0x01

abbrev pub listen_command : ℕ
listen_command = 0x02

abbrev pub connect_command : ℕ
connect_command = 0x04

abbrev pub discon_command : ℕ
discon_command = 0x08

abbrev pub close_command : ℕ
close_command = 0x10

abbrev pub send_command : ℕ
send_command = 0x20

abbrev pub send_mac_command : ℕ
send_mac_command = 0x21

abbrev pub recv_command : ℕ
recv_command = 0x40

-- The bits of the registers by their places, 7 to 0 (ATmega328P datasheet; each group names its register and section).
use Rattle.std.specs.Prelude.{ℕ}

-- SREG ("AVR Status Register")
abbrev pub I : ℕ
I = 7

abbrev pub T : ℕ
T = 6

abbrev pub H : ℕ
H = 5

abbrev pub S : ℕ
S = 4

abbrev pub V : ℕ
V = 3

abbrev pub N : ℕ
N = 2

abbrev pub Z : ℕ
Z = 1

abbrev pub C : ℕ
C = 0

-- PORTB, the board's select line SCSn (this board)
abbrev pub SCSn : ℕ
SCSn = 2

-- PORTD, the board's interrupt line INTn, which is INT0, and INT1 ("Alternate Functions of Port D")
abbrev pub PD2 : ℕ
PD2 = 2

abbrev pub PD3 : ℕ
PD3 = 3

-- EIMSK and EIFR ("External Interrupts")
abbrev pub INTF0 : ℕ
INTF0 = 0

abbrev pub INTF1 : ℕ
INTF1 = 1

-- PCICR and PCIFR ("External Interrupts")
abbrev pub PCIF0 : ℕ
PCIF0 = 0

abbrev pub PCIF1 : ℕ
PCIF1 = 1

abbrev pub PCIF2 : ℕ
PCIF2 = 2

-- TIFRn ("TIFRn")
abbrev pub OCFB : ℕ
OCFB = 2

abbrev pub OCFA : ℕ
OCFA = 1

abbrev pub TOV : ℕ
TOV = 0

-- TIMSKn ("TIMSKn")
abbrev pub OCIEB : ℕ
OCIEB = 2

abbrev pub OCIEA : ℕ
OCIEA = 1

abbrev pub TOIE : ℕ
TOIE = 0

-- SPCR ("SPI Control Register")
abbrev pub SPIE : ℕ
SPIE = 7

abbrev pub SPE : ℕ
SPE = 6

abbrev pub DORD : ℕ
DORD = 5

abbrev pub MSTR : ℕ
MSTR = 4

abbrev pub CPOL : ℕ
CPOL = 3

abbrev pub CPHA : ℕ
CPHA = 2

-- SPSR ("SPI Status Register")
abbrev pub SPIF : ℕ
SPIF = 7

abbrev pub WCOL : ℕ
WCOL = 6

abbrev pub SPI2X : ℕ
SPI2X = 0

-- UCSR0A ("USART Control and Status Register n A")
abbrev pub TXC0 : ℕ
TXC0 = 6

abbrev pub UDRE0 : ℕ
UDRE0 = 5

abbrev pub U2X0 : ℕ
U2X0 = 1

abbrev pub MPCM0 : ℕ
MPCM0 = 0

-- UCSR0B ("USART Control and Status Register n B")
abbrev pub TXCIE0 : ℕ
TXCIE0 = 6

abbrev pub UDRIE0 : ℕ
UDRIE0 = 5

abbrev pub TXEN0 : ℕ
TXEN0 = 3

abbrev pub UCSZ02 : ℕ
UCSZ02 = 2

-- UCSR0C ("USART Control and Status Register n C")
abbrev pub USBS0 : ℕ
USBS0 = 3

-- ADCSRA ("ADC Control and Status Register A")
abbrev pub ADEN : ℕ
ADEN = 7

abbrev pub ADSC : ℕ
ADSC = 6

abbrev pub ADATE : ℕ
ADATE = 5

-- TWCR ("TWI Control Register")
abbrev pub TWEN : ℕ
TWEN = 2

-- WDTCSR ("Watchdog Timer Control Register")
abbrev pub WDIE : ℕ
WDIE = 6

abbrev pub WDCE : ℕ
WDCE = 4

abbrev pub WDE : ℕ
WDE = 3

-- EECR ("The EEPROM Control Register")
abbrev pub EEPE : ℕ
EEPE = 1

abbrev pub EERE : ℕ
EERE = 0

-- SMCR ("Sleep Mode Control Register")
abbrev pub SE : ℕ
SE = 0

-- ASSR ("Asynchronous Status Register")
abbrev pub AS2 : ℕ
AS2 = 5

-- The registers by their data addresses (ATmega328P datasheet, "Register Summary"; each group names its section).
use Rattle.std.specs.Prelude.{ℕ, ◌+◌}

-- The data address of an I/O place, as `in`, `out`, `sbi` and `cbi` name it.
abbrev pub io_address : ℕ → ℕ
io_address io = io + 0x20

-- I/O ports ("I/O-Ports", "Register Description")
abbrev pub PINB : ℕ
PINB = 0x23

abbrev pub DDRB : ℕ
DDRB = 0x24

abbrev pub PORTB : ℕ
PORTB = 0x25

abbrev pub PINC : ℕ
PINC = 0x26

abbrev pub DDRC : ℕ
DDRC = 0x27

abbrev pub PORTC : ℕ
PORTC = 0x28

abbrev pub PIND : ℕ
PIND = 0x29

abbrev pub DDRD : ℕ
DDRD = 0x2A

abbrev pub PORTD : ℕ
PORTD = 0x2B

-- Flags of the timers ("TIFRn")
abbrev pub TIFR0 : ℕ
TIFR0 = 0x35

abbrev pub TIFR1 : ℕ
TIFR1 = 0x36

abbrev pub TIFR2 : ℕ
TIFR2 = 0x37

-- External interrupts and pin changes ("External Interrupts")
abbrev pub PCIFR : ℕ
PCIFR = 0x3B

abbrev pub EIFR : ℕ
EIFR = 0x3C

abbrev pub EIMSK : ℕ
EIMSK = 0x3D

abbrev pub PCICR : ℕ
PCICR = 0x68

abbrev pub EICRA : ℕ
EICRA = 0x69

abbrev pub PCMSK0 : ℕ
PCMSK0 = 0x6B

abbrev pub PCMSK1 : ℕ
PCMSK1 = 0x6C

abbrev pub PCMSK2 : ℕ
PCMSK2 = 0x6D

-- General purpose registers ("General Purpose I/O Registers")
abbrev pub GPIOR0 : ℕ
GPIOR0 = 0x3E

abbrev pub GPIOR1 : ℕ
GPIOR1 = 0x4A

abbrev pub GPIOR2 : ℕ
GPIOR2 = 0x4B

-- EEPROM ("AVR Memories", "Register Description")
abbrev pub EECR : ℕ
EECR = 0x3F

abbrev pub EEDR : ℕ
EEDR = 0x40

abbrev pub EEARL : ℕ
EEARL = 0x41

abbrev pub EEARH : ℕ
EEARH = 0x42

-- Timer 0 ("8-bit Timer/Counter0 with PWM"; GTCCR: "Timer/Counter0 and Timer/Counter1 Prescalers")
abbrev pub GTCCR : ℕ
GTCCR = 0x43

abbrev pub TCCR0A : ℕ
TCCR0A = 0x44

abbrev pub TCCR0B : ℕ
TCCR0B = 0x45

abbrev pub TCNT0 : ℕ
TCNT0 = 0x46

abbrev pub OCR0A : ℕ
OCR0A = 0x47

abbrev pub OCR0B : ℕ
OCR0B = 0x48

-- Masks of the timers' interrupts ("TIMSKn")
abbrev pub TIMSK0 : ℕ
TIMSK0 = 0x6E

abbrev pub TIMSK1 : ℕ
TIMSK1 = 0x6F

abbrev pub TIMSK2 : ℕ
TIMSK2 = 0x70

-- SPI ("SPI - Serial Peripheral Interface")
abbrev pub SPCR : ℕ
SPCR = 0x4C

abbrev pub SPSR : ℕ
SPSR = 0x4D

abbrev pub SPDR : ℕ
SPDR = 0x4E

-- Analog comparator ("Analog Comparator")
abbrev pub ACSR : ℕ
ACSR = 0x50

abbrev pub DIDR1 : ℕ
DIDR1 = 0x7F

-- Sleep, reset and clock ("Power Management and Sleep Modes", "System Control and Reset", "System Clock and Clock Options")
abbrev pub SMCR : ℕ
SMCR = 0x53

abbrev pub MCUSR : ℕ
MCUSR = 0x54

abbrev pub MCUCR : ℕ
MCUCR = 0x55

abbrev pub WDTCSR : ℕ
WDTCSR = 0x60

abbrev pub CLKPR : ℕ
CLKPR = 0x61

abbrev pub PRR : ℕ
PRR = 0x64

abbrev pub OSCCAL : ℕ
OSCCAL = 0x66

-- Self-programming ("Self-Programming the Flash")
abbrev pub SPMCSR : ℕ
SPMCSR = 0x57

-- The core ("AVR CPU Core")
abbrev pub SPL : ℕ
SPL = 0x5D

abbrev pub SPH : ℕ
SPH = 0x5E

abbrev pub SREG : ℕ
SREG = 0x5F

-- Analog-to-digital converter ("Analog-to-Digital Converter")
abbrev pub ADCL : ℕ
ADCL = 0x78

abbrev pub ADCH : ℕ
ADCH = 0x79

abbrev pub ADCSRA : ℕ
ADCSRA = 0x7A

abbrev pub ADCSRB : ℕ
ADCSRB = 0x7B

abbrev pub ADMUX : ℕ
ADMUX = 0x7C

abbrev pub DIDR0 : ℕ
DIDR0 = 0x7E

-- Timer 1 ("16-bit Timer/Counter1 with PWM")
abbrev pub TCCR1A : ℕ
TCCR1A = 0x80

abbrev pub TCCR1B : ℕ
TCCR1B = 0x81

abbrev pub TCCR1C : ℕ
TCCR1C = 0x82

abbrev pub TCNT1L : ℕ
TCNT1L = 0x84

abbrev pub TCNT1H : ℕ
TCNT1H = 0x85

abbrev pub ICR1L : ℕ
ICR1L = 0x86

abbrev pub ICR1H : ℕ
ICR1H = 0x87

abbrev pub OCR1AL : ℕ
OCR1AL = 0x88

abbrev pub OCR1AH : ℕ
OCR1AH = 0x89

abbrev pub OCR1BL : ℕ
OCR1BL = 0x8A

abbrev pub OCR1BH : ℕ
OCR1BH = 0x8B

-- Timer 2 ("8-bit Timer/Counter2 with PWM and Asynchronous Operation")
abbrev pub TCCR2A : ℕ
TCCR2A = 0xB0

abbrev pub TCCR2B : ℕ
TCCR2B = 0xB1

abbrev pub TCNT2 : ℕ
TCNT2 = 0xB2

abbrev pub OCR2A : ℕ
OCR2A = 0xB3

abbrev pub OCR2B : ℕ
OCR2B = 0xB4

abbrev pub ASSR : ℕ
ASSR = 0xB6

-- Two-wire interface ("2-wire Serial Interface")
abbrev pub TWBR : ℕ
TWBR = 0xB8

abbrev pub TWSR : ℕ
TWSR = 0xB9

abbrev pub TWAR : ℕ
TWAR = 0xBA

abbrev pub TWDR : ℕ
TWDR = 0xBB

abbrev pub TWCR : ℕ
TWCR = 0xBC

abbrev pub TWAMR : ℕ
TWAMR = 0xBD

-- USART0 ("USART0")
abbrev pub UCSR0A : ℕ
UCSR0A = 0xC0

abbrev pub UCSR0B : ℕ
UCSR0B = 0xC1

abbrev pub UCSR0C : ℕ
UCSR0C = 0xC2

abbrev pub UBRR0L : ℕ
UBRR0L = 0xC4

abbrev pub UBRR0H : ℕ
UBRR0H = 0xC5

abbrev pub UDR0 : ℕ
UDR0 = 0xC6

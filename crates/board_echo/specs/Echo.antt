-- The firmware of an echo server on port 5000, as assembler text, by socket 0. There are no vectors: no interrupt is ever enabled.
--
-- It selects the chip by PB2 and talks to it by SPI: XFER moves the byte in r24, HEAD begins a frame with the address r21:r20 and
-- the control byte r22, WR writes r23 to the socket's register r20, WP writes r7:r6 to the pair at r20, RD reads the register at
-- r20 into r24, RD2 the pair at r20 into r19:r18. r7:r6 counts the bytes that came and went, and stands for both pointers, which
-- start at 0. The status is read before the received size, so that no byte is lost where the peer ends between.
use Rattle.std.specs.Prelude.{ℕ, List, [], ◌∷◌}
use Rattle.board_echo.specs.Assembly.{Line, line, add, adc, cpi, dec, eor, andi, mov, ldi, ld_X+, st_X+, in_, out, cbi, sbi, break, ret, sbrs, rcall, rjmp, breq, brne, words_of}

-- The registers by their names.
abbrev pub r0 : ℕ
r0 = 0

abbrev pub r6 : ℕ
r6 = 6

abbrev pub r7 : ℕ
r7 = 7

abbrev pub r16 : ℕ
r16 = 16

abbrev pub r17 : ℕ
r17 = 17

abbrev pub r18 : ℕ
r18 = 18

abbrev pub r19 : ℕ
r19 = 19

abbrev pub r20 : ℕ
r20 = 20

abbrev pub r21 : ℕ
r21 = 21

abbrev pub r22 : ℕ
r22 = 22

abbrev pub r23 : ℕ
r23 = 23

abbrev pub r24 : ℕ
r24 = 24

abbrev pub r26 : ℕ
r26 = 26

abbrev pub r27 : ℕ
r27 = 27

-- One byte to the chip and one back, in r24.
abbrev pub transfer : List Line
transfer =
    line "XFER" (out 0x2E r24 ∷ []) ∷
    line "XW" (in_ r0 0x2D ∷ sbrs r0 7 ∷ rjmp "XW" ∷ in_ r24 0x2E ∷ ret ∷ []) ∷
    []

-- The whole firmware.
unfoldable pub echo_lines : List Line
echo_lines =
    line "" (sbi 0x05 2 ∷ ldi r16 0x2C ∷ out 0x04 r16 ∷ []) ∷
    line "" (ldi r16 0x50 ∷ out 0x2C r16 ∷ ldi r16 0x01 ∷ out 0x2D r16 ∷ []) ∷
    line "" (eor r20 r20 ∷ eor r21 r21 ∷ ldi r22 0x04 ∷ rcall "HEAD" ∷ []) ∷
    line "" (ldi r24 0x80 ∷ rcall "XFER" ∷ sbi 0x05 2 ∷ []) ∷
    line "" (ldi r20 0x00 ∷ ldi r23 0x01 ∷ rcall "WR" ∷ []) ∷
    line "" (ldi r20 0x04 ∷ ldi r23 0x13 ∷ rcall "WR" ∷ []) ∷
    line "" (ldi r20 0x05 ∷ ldi r23 0x88 ∷ rcall "WR" ∷ []) ∷
    line "" (ldi r20 0x01 ∷ ldi r23 0x01 ∷ rcall "WR" ∷ ldi r23 0x02 ∷ rcall "WR" ∷ []) ∷
    line "LOOP" (ldi r20 0x03 ∷ rcall "RD" ∷ mov r17 r24 ∷ ldi r20 0x26 ∷ rcall "RD2" ∷ []) ∷
    line "" (cpi r19 0x00 ∷ breq "SM" ∷ ldi r18 0x80 ∷ []) ∷
    line "SM" (cpi r18 0x00 ∷ brne "GOT" ∷ cpi r17 0x00 ∷ breq "END" ∷ []) ∷
    line "" (cpi r17 0x1C ∷ brne "LOOP" ∷ ldi r20 0x01 ∷ ldi r23 0x08 ∷ rcall "WR" ∷ []) ∷
    line "WC" (ldi r20 0x03 ∷ rcall "RD" ∷ cpi r24 0x00 ∷ brne "WC" ∷ []) ∷
    line "END" (break ∷ []) ∷
    line "GOT" (mov r21 r7 ∷ mov r20 r6 ∷ ldi r22 0x18 ∷ rcall "HEAD" ∷ []) ∷
    line "" (ldi r27 0x01 ∷ ldi r26 0x00 ∷ mov r19 r18 ∷ []) ∷
    line "RL" (rcall "XFER" ∷ st_X+ r24 ∷ dec r19 ∷ brne "RL" ∷ sbi 0x05 2 ∷ []) ∷
    line "" (mov r21 r7 ∷ mov r20 r6 ∷ ldi r22 0x14 ∷ rcall "HEAD" ∷ []) ∷
    line "" (ldi r27 0x01 ∷ ldi r26 0x00 ∷ mov r19 r18 ∷ []) ∷
    line "TL" (ld_X+ r24 ∷ rcall "XFER" ∷ dec r19 ∷ brne "TL" ∷ sbi 0x05 2 ∷ []) ∷
    line "" (add r6 r18 ∷ ldi r16 0x00 ∷ adc r7 r16 ∷ []) ∷
    line "" (ldi r20 0x28 ∷ rcall "WP" ∷ ldi r20 0x01 ∷ ldi r23 0x40 ∷ rcall "WR" ∷ []) ∷
    line "" (ldi r20 0x24 ∷ rcall "WP" ∷ ldi r20 0x01 ∷ ldi r23 0x20 ∷ rcall "WR" ∷ []) ∷
    line "WS" (ldi r20 0x02 ∷ rcall "RD" ∷ andi r24 0x18 ∷ breq "WS" ∷ []) ∷
    line "" (ldi r23 0x10 ∷ rcall "WR" ∷ rjmp "LOOP" ∷ []) ∷
    line "WR" (eor r21 r21 ∷ ldi r22 0x0C ∷ rcall "HEAD" ∷ mov r24 r23 ∷ []) ∷
    line "" (rcall "XFER" ∷ sbi 0x05 2 ∷ ret ∷ []) ∷
    line "WP" (eor r21 r21 ∷ ldi r22 0x0C ∷ rcall "HEAD" ∷ mov r24 r7 ∷ rcall "XFER" ∷ []) ∷
    line "" (mov r24 r6 ∷ rcall "XFER" ∷ sbi 0x05 2 ∷ ret ∷ []) ∷
    line "RD" (eor r21 r21 ∷ ldi r22 0x08 ∷ rcall "HEAD" ∷ rcall "XFER" ∷ sbi 0x05 2 ∷ ret ∷ []) ∷
    line "RD2" (eor r21 r21 ∷ ldi r22 0x08 ∷ rcall "HEAD" ∷ rcall "XFER" ∷ mov r19 r24 ∷ []) ∷
    line "" (rcall "XFER" ∷ mov r18 r24 ∷ sbi 0x05 2 ∷ ret ∷ []) ∷
    line "HEAD" (cbi 0x05 2 ∷ mov r24 r21 ∷ rcall "XFER" ∷ mov r24 r20 ∷ rcall "XFER" ∷ []) ∷
    line "" (mov r24 r22 ∷ rjmp "XFER" ∷ []) ∷
    transfer

-- Its words.
unfoldable pub echo_words : List ℕ
echo_words = words_of echo_lines

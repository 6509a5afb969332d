-- SEND: its stops, what it raises, and the two directions after it.
use Rattle.std.proofs.Common.{◌≡◌, ◌≤◌, ◌<◌, ℕ, Bool, true, false, not, ◌&&◌, cond, eqb, ltb, [], ◌∷◌, length, Option, None, Some, refl, sym, ap, ◌∙◌}
use Rattle.std.proofs.lemmas.Bool.{lt-ltb, le-ltb}
use Rattle.board_bus.specs.declared.event.BusEvent.{BusEvent}
use Rattle.board_bus.specs.declared.event.BusAnswer.{BusAnswer}
use Rattle.chip_sheet.specs.declared.event.Entry.{Entry}
use Rattle.chip_sheet.specs.declared.event.Entry.TheVariants.{Bus}
use Rattle.chip_sheet.specs.declared.phase.Access.TheVariants.{Write}
use Rattle.chip_sheet.specs.declared.socket.Status.{Status}
use Rattle.chip_sheet.specs.declared.socket.Status.TheVariants.{Closed, Init, Udp}
use Rattle.chip_sheet.specs.declared.socket.Cause.{Cause}
use Rattle.chip_sheet.specs.declared.socket.Cause.TheVariants as because
use Rattle.chip_sheet.specs.declared.stop.ChipStop.{ChipStop}
use Rattle.chip_sheet.specs.declared.stop.ChipStop.TheVariants.{SendBusy, SendTooLong}
use Rattle.chip_sheet.specs.Past.{Past}
use Rattle.chip_sheet.specs.Frames.{access, access_of}
use Rattle.chip_sheet.specs.Blocks.{registers_of}
use Rattle.chip_sheet.specs.Life.{Facts, next, cause, status, lives, is_udp}
use Rattle.chip_sheet.specs.Sending as sends_of
use Rattle.chip_sheet.specs.Streams.{Starts, sends, sent, range_length, is_open}
use Rattle.chip_sheet.specs.Windows.{flight, tx_free}
use Rattle.chip_sheet.specs.Buffers.{sending, receiving}
use Rattle.chip_sheet.specs.Interrupts.{interrupts_by}
use Rattle.chip_sheet.specs.Stops.{stop, first, where_it, command_facts}
use Rattle.chip_steps.specs.Steps.{writes_command_alone, leaves_sent, leaves_got}
use Rattle.chip_steps.proofs.BitSteps.{send_raises}
use Rattle.chip_steps.proofs.SendingSteps as tx_steps
use Rattle.chip_steps.proofs.ReceivingSteps as rx_steps
use Rattle.chip_steps.proofs.StopSteps.{writes_command}
use Rattle.chip_steps.proofs.WindowSteps.{range_is}
use Rattle.sock_cmd.proofs.StopOrder.{in_order}
use Rattle.chip_parts.specs.Passing.{passed}
use Rattle.chip_parts.proofs.Taking.{why_is, status_kept}

-- The write is SEND.
pub is_send : (past : Past) (e : BusEvent) (a : BusAnswer) (n : ℕ) → access past e ≡ Write (registers_of n) 0x01 0x20 → cause past n (Bus e a) ≡ because.Send
is_send past e a n is = why_is past e a n 0x20 is

-- It moves no socket to another status.
send_next : (at : Status) (facts : Facts) → next at because.Send facts ≡ at
send_next Closed facts = refl
send_next Init facts = refl
send_next at facts = refl

-- What is received stays, and what is sent where the status does not take SEND.
pub send_leaves_got : (starts : Starts) (past : Past) (entry : Entry) (n : ℕ) → writes_command_alone (access_of past entry) n ≡ true → cause past n entry ≡ because.Send
    → receiving starts (entry ∷ past) n ≡ receiving starts past n
send_leaves_got starts past entry n by_itself why =
    rx_steps.stays starts past entry n by_itself (ap (λ (w : Cause). leaves_got w (status past n)) why) (ap is_open (status_kept past entry n because.Send why send_next))

pub ignored_leaves_sent : (starts : Starts) (past : Past) (entry : Entry) (n : ℕ) → writes_command_alone (access_of past entry) n ≡ true → cause past n entry ≡ because.Send → sends (status past n) ≡ false
    → sending starts (entry ∷ past) n ≡ sending starts past n
ignored_leaves_sent starts past entry n by_itself why off =
    tx_steps.stays starts past entry n by_itself (ap (λ (w : Cause). leaves_sent w (status past n)) why ∙ ap not off) (ap is_open (status_kept past entry n because.Send why send_next))

-- SENDOK rises where the range is empty.
pub ignored_raises : (starts : Starts) (past : Past) (entry : Entry) (n : ℕ) → cause past n entry ≡ because.Send → sends (status past n) ≡ false → 0 ≡ interrupts_by starts past n entry
ignored_raises starts past entry n why off =
    sym (send_raises starts past entry n why ∙ ap (λ (b : Bool). cond (b && eqb (range_length starts past n (length (sent starts past n (lives past n)))) 0) 16 0) off)

pub taken_raises : (starts : Starts) (past : Past) (entry : Entry) (n count bits : ℕ) → cause past n entry ≡ because.Send → sends (status past n) ≡ true → count ≡ sends_of.range_length (sending starts past n)
    → bits ≡ cond (eqb count 0) 16 0 → bits ≡ interrupts_by starts past n entry
taken_raises starts past entry n count bits why on is bits_is =
    let same = is ∙ range_is starts past n (tx_steps.sends_open (status past n) on) in
    bits_is ∙ (λ i. cond (sym on i && eqb (same i) 0) 16 0) ∙ sym (send_raises starts past entry n why)

-- How many bytes are passed.
pub ignored_passes : (starts : Starts) (past : Past) (n : ℕ) → sends (status past n) ≡ false → 0 ≡ passed starts past n because.Send
ignored_passes starts past n off = sym (ap (λ (b : Bool). cond b (range_length starts past n (length (sent starts past n (lives past n)))) 0) off)

pub taken_passes : (starts : Starts) (past : Past) (n count : ℕ) → sends (status past n) ≡ true → count ≡ sends_of.range_length (sending starts past n) → count ≡ passed starts past n because.Send
taken_passes starts past n count on is =
    let len = range_length starts past n (length (sent starts past n (lives past n))) in
    is ∙ range_is starts past n (tx_steps.sends_open (status past n) on) ∙ sym (ap (λ (b : Bool). cond b len 0) on)

-- Its stops: a datagram in flight first, and then a range that is longer than what is free.
abbrev send_stops : ℕ → Bool → Bool → Bool → ℕ → ℕ → Option ChipStop
send_stops n busy takes long len free = first (where_it busy (SendBusy n) ∷ where_it (takes && long) (SendTooLong n len free) ∷ None ∷ [])

send_stop : (starts : Starts) (past : Past) (e : BusEvent) (n : ℕ) → access past e ≡ Write (registers_of n) 0x01 0x20
    → let len = range_length starts past n (length (sent starts past n (lives past n))) in
    let free = tx_free starts past n in
    stop starts past e ≡ send_stops n (is_udp (status past n) && ltb 0 (flight starts past n)) (sends (status past n)) (ltb free len) len free
send_stop starts past e n is = writes_command starts past e n 0x20 is ∙ in_order n (command_facts starts past n) 0x20

no_datagram : (at : Status) (b : Bool) → sends at ≡ false → (is_udp at && b) ≡ false
no_datagram Udp b h = cc
no_datagram at b h = refl

pub ignored_goes : (starts : Starts) (past : Past) (e : BusEvent) (n : ℕ) → access past e ≡ Write (registers_of n) 0x01 0x20 → sends (status past n) ≡ false → stop starts past e ≡ None
ignored_goes starts past e n is off =
    let len = range_length starts past n (length (sent starts past n (lives past n))) in
    let free = tx_free starts past n in
    send_stop starts past e n is
    ∙ (λ i. send_stops n (no_datagram (status past n) (ltb 0 (flight starts past n)) off i) (off i) (ltb free len) len free)

pub busy_stops : (starts : Starts) (past : Past) (e : BusEvent) (n : ℕ) → access past e ≡ Write (registers_of n) 0x01 0x20 → (is_udp (status past n) && ltb 0 (flight starts past n)) ≡ true
    → stop starts past e ≡ Some (SendBusy n)
busy_stops starts past e n is busy =
    let len = range_length starts past n (length (sent starts past n (lives past n))) in
    let free = tx_free starts past n in
    send_stop starts past e n is
    ∙ ap (λ (b : Bool). send_stops n b (sends (status past n)) (ltb free len) len free) busy

pub long_stops : (starts : Starts) (past : Past) (e : BusEvent) (n : ℕ) → access past e ≡ Write (registers_of n) 0x01 0x20 → (is_udp (status past n) && ltb 0 (flight starts past n)) ≡ false
    → sends (status past n) ≡ true → sends_of.free_size (sending starts past n) < sends_of.range_length (sending starts past n)
    → stop starts past e ≡ Some (SendTooLong n (sends_of.range_length (sending starts past n)) (sends_of.free_size (sending starts past n)))
long_stops starts past e n is busy on more =
    let free = tx_free starts past n in
    let same = range_is starts past n (tx_steps.sends_open (status past n) on) in
    send_stop starts past e n is
    ∙ (λ i. send_stops n (busy i) (on i) (ltb free (sym same i)) (sym same i) free)
    ∙ ap (λ (b : Bool). send_stops n false true b (sends_of.range_length (sending starts past n)) free) (lt-ltb free (sends_of.range_length (sending starts past n)) more)

pub fits_goes : (starts : Starts) (past : Past) (e : BusEvent) (n : ℕ) → access past e ≡ Write (registers_of n) 0x01 0x20 → (is_udp (status past n) && ltb 0 (flight starts past n)) ≡ false
    → sends (status past n) ≡ true → sends_of.range_length (sending starts past n) ≤ sends_of.free_size (sending starts past n) → stop starts past e ≡ None
fits_goes starts past e n is busy on fits =
    let free = tx_free starts past n in
    let same = range_is starts past n (tx_steps.sends_open (status past n) on) in
    send_stop starts past e n is
    ∙ (λ i. send_stops n (busy i) (on i) (ltb free (sym same i)) (sym same i) free)
    ∙ ap (λ (b : Bool). send_stops n false true b (sends_of.range_length (sending starts past n)) free) (le-ltb free (sends_of.range_length (sending starts past n)) fits)

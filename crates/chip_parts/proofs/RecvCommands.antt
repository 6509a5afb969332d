-- RECV: its stop, what it raises, and the two directions after it.
use Rattle.std.proofs.Common.{◌≡◌, ◌≤◌, ◌<◌, ℕ, ◌-◌, Bool, true, false, not, ◌&&◌, cond, ltb, [], ◌∷◌, Option, None, Some, sym, ap, ◌∙◌}
use Rattle.std.proofs.lemmas.Bool.{lt-ltb, le-ltb}
use Rattle.board_bus.specs.declared.event.BusEvent.{BusEvent}
use Rattle.board_bus.specs.declared.event.BusAnswer.{BusAnswer}
use Rattle.chip_sheet.specs.declared.event.Entry.{Entry}
use Rattle.chip_sheet.specs.declared.event.Entry.TheVariants.{Bus}
use Rattle.chip_sheet.specs.declared.phase.Access.TheVariants.{Write}
use Rattle.chip_sheet.specs.declared.socket.Cause.{Cause}
use Rattle.chip_sheet.specs.declared.socket.Cause.TheVariants as because
use Rattle.chip_sheet.specs.declared.stop.ChipStop.{ChipStop}
use Rattle.chip_sheet.specs.declared.stop.ChipStop.TheVariants.{RecvPastEnd}
use Rattle.chip_sheet.specs.Past.{Past}
use Rattle.chip_sheet.specs.Frames.{access, access_of}
use Rattle.chip_sheet.specs.Blocks.{registers_of}
use Rattle.chip_sheet.specs.Life.{cause, status, lives}
use Rattle.chip_sheet.specs.Receiving as receives_of
use Rattle.chip_sheet.specs.Receiving.{Receiving}
use Rattle.chip_sheet.specs.Streams.{Starts, released, release_length, is_open}
use Rattle.chip_sheet.specs.Windows.{unread}
use Rattle.chip_sheet.specs.Buffers.{sending, receiving}
use Rattle.chip_sheet.specs.Interrupts.{interrupts_by}
use Rattle.chip_sheet.specs.Legal.{Legal}
use Rattle.chip_sheet.specs.Stops.{stop, first, where_it, command_facts}
use Rattle.chip_steps.specs.Steps.{writes_command_alone, leaves_sent, leaves_got}
use Rattle.chip_steps.proofs.BitSteps.{receive_raises}
use Rattle.chip_steps.proofs.SendingSteps as tx_steps
use Rattle.chip_steps.proofs.ReceivingSteps as rx_steps
use Rattle.chip_steps.proofs.StopSteps.{writes_command}
use Rattle.chip_steps.proofs.WindowSteps.{release_is}
use Rattle.sock_cmd.proofs.StopOrder.{in_order}
use Rattle.chip_parts.proofs.Taking.{why_is, status_kept}

-- The write is RECV.
pub is_recv : (past : Past) (e : BusEvent) (a : BusAnswer) (n : ℕ) → access past e ≡ Write (registers_of n) 0x01 0x40 → cause past n (Bus e a) ≡ because.Receive
is_recv past e a n is = why_is past e a n 0x40 is

-- What is sent stays, and what is received where the status is not open.
pub recv_leaves_sent : (starts : Starts) (past : Past) (entry : Entry) (n : ℕ) → writes_command_alone (access_of past entry) n ≡ true → cause past n entry ≡ because.Receive
    → sending starts (entry ∷ past) n ≡ sending starts past n
recv_leaves_sent starts past entry n by_itself why =
    tx_steps.stays starts past entry n by_itself (ap (λ (w : Cause). leaves_sent w (status past n)) why) (ap is_open (status_kept past entry n because.Receive why rx_steps.receive_next))

pub ignored_leaves_got : (starts : Starts) (past : Past) (entry : Entry) (n : ℕ) → writes_command_alone (access_of past entry) n ≡ true → cause past n entry ≡ because.Receive → is_open (status past n) ≡ false
    → receiving starts (entry ∷ past) n ≡ receiving starts past n
ignored_leaves_got starts past entry n by_itself why off =
    rx_steps.stays starts past entry n by_itself (ap (λ (w : Cause). leaves_got w (status past n)) why ∙ ap not off) (ap is_open (status_kept past entry n because.Receive why rx_steps.receive_next))

-- RECV rises where bytes remain.
pub ignored_raises : (starts : Starts) (past : Past) (entry : Entry) (n : ℕ) → cause past n entry ≡ because.Receive → is_open (status past n) ≡ false → 0 ≡ interrupts_by starts past n entry
ignored_raises starts past entry n why off =
    sym (receive_raises starts past entry n why ∙ ap (λ (b : Bool). cond (b && ltb 0 (unread starts (entry ∷ past) n)) 4 0) off)

pub taken_raises : (starts : Starts) (past : Past) (entry : Entry) (n left bits : ℕ) → cause past n entry ≡ because.Receive → is_open (status past n) ≡ true
    → receiving starts (entry ∷ past) n ≡ receives_of.after_release (receiving starts past n) → left ≡ (receiving starts past n).unread - receives_of.release_length (receiving starts past n)
    → bits ≡ cond (ltb 0 left) 4 0 → bits ≡ interrupts_by starts past n entry
taken_raises starts past entry n left bits why live after is bits_is =
    let same : left ≡ unread starts (entry ∷ past) n = is ∙ sym (ap (λ (g : Receiving). g.unread) after) in
    bits_is ∙ (λ i. cond (sym live i && ltb 0 (same i)) 4 0) ∙ sym (receive_raises starts past entry n why)

-- Its stop: past the received bytes.
abbrev recv_stops : ℕ → Bool → Bool → ℕ → ℕ → Option ChipStop
recv_stops n live over asked there = first (None ∷ None ∷ where_it (live && over) (RecvPastEnd n asked there) ∷ [])

recv_stop : (starts : Starts) (past : Past) (e : BusEvent) (n : ℕ) → access past e ≡ Write (registers_of n) 0x01 0x40
    → let asked = release_length starts past n (released starts past n (lives past n)) in
    let there = unread starts past n in
    stop starts past e ≡ recv_stops n (is_open (status past n)) (ltb there asked) asked there
recv_stop starts past e n is = writes_command starts past e n 0x40 is ∙ in_order n (command_facts starts past n) 0x40

pub ignored_goes : (starts : Starts) (past : Past) (e : BusEvent) (n : ℕ) → access past e ≡ Write (registers_of n) 0x01 0x40 → is_open (status past n) ≡ false → stop starts past e ≡ None
ignored_goes starts past e n is off =
    let asked = release_length starts past n (released starts past n (lives past n)) in
    let there = unread starts past n in
    recv_stop starts past e n is ∙ ap (λ (b : Bool). recv_stops n b (ltb there asked) asked there) off

-- The same by what is unread and what is asked, as the buffers have them.
by_buffers : (starts : Starts) (past : Past) (e : BusEvent) (n : ℕ) → Legal starts past → access past e ≡ Write (registers_of n) 0x01 0x40 → is_open (status past n) ≡ true
    → let asked = receives_of.release_length (receiving starts past n) in
    let there = (receiving starts past n).unread in
    stop starts past e ≡ recv_stops n true (ltb there asked) asked there
by_buffers starts past e n legal is live =
    let there = unread starts past n in
    let same = release_is starts past n legal live in
    recv_stop starts past e n is ∙ (λ i. recv_stops n (live i) (ltb there (sym same i)) (sym same i) there)

pub past_end_stops : (starts : Starts) (past : Past) (e : BusEvent) (n : ℕ) → Legal starts past → access past e ≡ Write (registers_of n) 0x01 0x40 → is_open (status past n) ≡ true
    → (receiving starts past n).unread < receives_of.release_length (receiving starts past n)
    → stop starts past e ≡ Some (RecvPastEnd n (receives_of.release_length (receiving starts past n)) (receiving starts past n).unread)
past_end_stops starts past e n legal is live over =
    let asked = receives_of.release_length (receiving starts past n) in
    let there = (receiving starts past n).unread in
    by_buffers starts past e n legal is live ∙ ap (λ (b : Bool). recv_stops n true b asked there) (lt-ltb there asked over)

pub within_goes : (starts : Starts) (past : Past) (e : BusEvent) (n : ℕ) → Legal starts past → access past e ≡ Write (registers_of n) 0x01 0x40 → is_open (status past n) ≡ true
    → receives_of.release_length (receiving starts past n) ≤ (receiving starts past n).unread → stop starts past e ≡ None
within_goes starts past e n legal is live within =
    let asked = receives_of.release_length (receiving starts past n) in
    let there = (receiving starts past n).unread in
    by_buffers starts past e n legal is live ∙ ap (λ (b : Bool). recv_stops n true b asked there) (le-ltb there asked within)

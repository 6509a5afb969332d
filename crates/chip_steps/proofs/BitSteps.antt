-- The interrupts that a command raises.
use Rattle.std.proofs.Common.{◌≡◌, ℕ, ◌+◌, Bool, true, false, ◌&&◌, ◌||◌, cond, eqb, ltb, ◌∷◌, length, refl, ap, ◌∙◌}
use Rattle.chip_sheet.specs.declared.event.Entry.{Entry}
use Rattle.chip_sheet.specs.declared.socket.Cause.{Cause}
use Rattle.chip_sheet.specs.declared.socket.Cause.TheVariants as because
use Rattle.chip_sheet.specs.declared.socket.Interrupt.{Interrupt}
use Rattle.chip_sheet.specs.declared.socket.Interrupt.TheVariants.{Connected, Disconnected, Received, TimedOut, SendOk}
use Rattle.chip_sheet.specs.Past.{Past}
use Rattle.chip_sheet.specs.Life.{cause, status, lives}
use Rattle.chip_sheet.specs.Streams.{Starts, sent, range_length, sends, is_open}
use Rattle.chip_sheet.specs.Windows.{unread}
use Rattle.chip_sheet.specs.Interrupts.{bit_value, raised_by_life, raised_by_bytes, interrupts_by}
use Rattle.chip_steps.specs.Steps.{is_quiet}

-- What an entry raises as a byte, where this happens.
abbrev total : Starts → Past → ℕ → Entry → Cause → ℕ
total starts past n entry why =
    let at = status past n in
    let bit = λ (b : Interrupt). cond (raised_by_life why b at || raised_by_bytes starts past n entry why b at) (bit_value b) 0 in
    bit Connected + (bit Disconnected + (bit Received + (bit TimedOut + (bit SendOk + 0))))

pub send_value : (b : Bool) → 0 + (0 + (0 + (0 + (cond b 16 0 + 0)))) ≡ cond b 16 0
send_value true = refl
send_value false = refl

pub receive_value : (b : Bool) → 0 + (0 + (cond b 4 0 + (0 + (0 + 0)))) ≡ cond b 4 0
receive_value true = refl
receive_value false = refl

pub send_raises : (starts : Starts) (past : Past) (entry : Entry) (n : ℕ) → cause past n entry ≡ because.Send
    → interrupts_by starts past n entry ≡ cond (sends (status past n) && eqb (range_length starts past n (length (sent starts past n (lives past n)))) 0) 16 0
send_raises starts past entry n why =
    ap (total starts past n entry) why ∙ send_value (sends (status past n) && eqb (range_length starts past n (length (sent starts past n (lives past n)))) 0)

pub receive_raises : (starts : Starts) (past : Past) (entry : Entry) (n : ℕ) → cause past n entry ≡ because.Receive
    → interrupts_by starts past n entry ≡ cond (is_open (status past n) && ltb 0 (unread starts (entry ∷ past) n)) 4 0
receive_raises starts past entry n why =
    ap (total starts past n entry) why ∙ receive_value (is_open (status past n) && ltb 0 (unread starts (entry ∷ past) n))

quiet_total : (starts : Starts) (past : Past) (n : ℕ) (entry : Entry) (why : Cause) → is_quiet why ≡ true → total starts past n entry why ≡ 0
quiet_total starts past n entry because.Nothing h = refl
quiet_total starts past n entry because.OpenTcp h = refl
quiet_total starts past n entry because.OpenUdp h = refl
quiet_total starts past n entry because.Listen h = refl
quiet_total starts past n entry because.Connect h = refl
quiet_total starts past n entry because.Disconnect h = refl
quiet_total starts past n entry because.Close h = refl
quiet_total starts past n entry why h = cc

pub quiet_raises : (starts : Starts) (past : Past) (entry : Entry) (n : ℕ) → is_quiet (cause past n entry) ≡ true → interrupts_by starts past n entry ≡ 0
quiet_raises starts past entry n h = quiet_total starts past n entry (cause past n entry) h

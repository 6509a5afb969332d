-- The interrupts that a link event raises.
use Rattle.std.proofs.Common.{◌≡◌, ℕ, ◌+◌, true, ◌||◌, cond, List, length, refl, ap, ◌∙◌}
use Rattle.chip_sheet.specs.declared.event.Addr.{Addr}
use Rattle.chip_sheet.specs.declared.event.Entry.{Entry}
use Rattle.chip_sheet.specs.declared.event.Entry.TheVariants.{Link}
use Rattle.chip_sheet.specs.declared.event.LinkEntry.{LinkEntry}
use Rattle.chip_sheet.specs.declared.event.LinkEntry.TheVariants.{Linked, Accepted, Refused, TimedOut, Took, Got, Datagram, Ended, Shut, Failed, Dropped}
use Rattle.chip_sheet.specs.declared.socket.Status.{Status}
use Rattle.chip_sheet.specs.declared.socket.Status.TheVariants as status_is
use Rattle.chip_sheet.specs.declared.socket.Cause.{Cause}
use Rattle.chip_sheet.specs.declared.socket.Cause.TheVariants as because
use Rattle.chip_sheet.specs.declared.socket.Interrupt.{Interrupt}
use Rattle.chip_sheet.specs.declared.socket.Interrupt.TheVariants as bit_of
use Rattle.chip_sheet.specs.Past.{Past}
use Rattle.chip_sheet.specs.Life.{happening, status, lives, is_udp}
use Rattle.chip_sheet.specs.Positions.{has_between}
use Rattle.chip_sheet.specs.Streams.{Starts, makes, taken, ends, is_established, has_place}
use Rattle.chip_sheet.specs.Windows.{rx_free}
use Rattle.chip_sheet.specs.Interrupts.{bit_value, raised_by_life, raised_by_bytes, interrupts_by}
use Rattle.chip_steps.proofs.Going.{own_cause}
use Rattle.chip_links.specs.Noting.{is_told, life_bits}
use Rattle.chip_steps.proofs.BitSteps.{send_value, receive_value}

-- What an entry raises as a byte, where this happens in this status.
abbrev total : Starts → Past → ℕ → Entry → Cause → Status → ℕ
total starts past n entry why at =
    let bit = λ (b : Interrupt). cond (raised_by_life why b at || raised_by_bytes starts past n entry why b at) (bit_value b) 0 in
    bit bit_of.Connected + (bit bit_of.Disconnected + (bit bit_of.Received + (bit bit_of.TimedOut + (bit bit_of.SendOk + 0))))

total_is : (starts : Starts) (past : Past) (n : ℕ) (what : LinkEntry) → interrupts_by starts past n (Link n what) ≡ total starts past n (Link n what) (happening what) (status past n)
total_is starts past n what = ap (λ (why : Cause). total starts past n (Link n what) why (status past n)) (own_cause past n what)

-- By the table of socket life alone, where it moves no bytes.
accepted_total : (starts : Starts) (past : Past) (n : ℕ) (entry : Entry) (at : Status) → total starts past n entry because.Accepted at ≡ life_bits because.Accepted at
accepted_total starts past n entry status_is.Listen = refl
accepted_total starts past n entry at = refl

linked_total : (starts : Starts) (past : Past) (n : ℕ) (entry : Entry) (at : Status) → total starts past n entry because.Linked at ≡ life_bits because.Linked at
linked_total starts past n entry status_is.SynSent = refl
linked_total starts past n entry at = refl

ended_total : (starts : Starts) (past : Past) (n : ℕ) (entry : Entry) (at : Status) → total starts past n entry because.Ended at ≡ life_bits because.Ended at
ended_total starts past n entry status_is.Established = refl
ended_total starts past n entry status_is.FinWait = refl
ended_total starts past n entry at = refl

timed_total : (starts : Starts) (past : Past) (n : ℕ) (entry : Entry) (at : Status) → total starts past n entry because.TimedOut at ≡ life_bits because.TimedOut at
timed_total starts past n entry status_is.SynSent = refl
timed_total starts past n entry at = refl

failed_total : (starts : Starts) (past : Past) (n : ℕ) (entry : Entry) (at : Status) → total starts past n entry because.Failed at ≡ life_bits because.Failed at
failed_total starts past n entry status_is.Closed = refl
failed_total starts past n entry status_is.Init = refl
failed_total starts past n entry at = refl

pub told_raises : (starts : Starts) (past : Past) (n : ℕ) (what : LinkEntry) → is_told what ≡ true → interrupts_by starts past n (Link n what) ≡ life_bits (happening what) (status past n)
told_raises starts past n Refused h = total_is starts past n Refused
told_raises starts past n TimedOut h = total_is starts past n TimedOut ∙ timed_total starts past n (Link n TimedOut) (status past n)
told_raises starts past n Ended h = total_is starts past n Ended ∙ ended_total starts past n (Link n Ended) (status past n)
told_raises starts past n Shut h = total_is starts past n Shut
told_raises starts past n Failed h = total_is starts past n Failed ∙ failed_total starts past n (Link n Failed) (status past n)
told_raises starts past n Dropped h = total_is starts past n Dropped
told_raises starts past n what h = cc

pub made_raises : (starts : Starts) (past : Past) (n : ℕ) (what : LinkEntry) → makes what ≡ true → interrupts_by starts past n (Link n what) ≡ life_bits (happening what) (status past n)
made_raises starts past n Linked h = total_is starts past n Linked ∙ linked_total starts past n (Link n Linked) (status past n)
made_raises starts past n (Accepted from) h = total_is starts past n (Accepted from) ∙ accepted_total starts past n (Link n (Accepted from)) (status past n)
made_raises starts past n what h = cc

-- By the bytes that it moves.
pub took_raises : (starts : Starts) (past : Past) (n count : ℕ) → let before = taken past n (lives past n) in
    interrupts_by starts past n (Link n (Took count)) ≡ cond (has_between before (before + count) (ends starts past n (lives past n))) 16 0
took_raises starts past n count =
    let before = taken past n (lives past n) in total_is starts past n (Took count) ∙ send_value (has_between before (before + count) (ends starts past n (lives past n)))

got_total : (starts : Starts) (past : Past) (n : ℕ) (entry : Entry) (at : Status) → total starts past n entry because.Got at ≡ cond (is_established at) 4 0
got_total starts past n entry status_is.Established = refl
got_total starts past n entry at = refl

pub got_raises : (starts : Starts) (past : Past) (n : ℕ) (bytes : List ℕ) → interrupts_by starts past n (Link n (Got bytes)) ≡ cond (is_established (status past n)) 4 0
got_raises starts past n bytes = total_is starts past n (Got bytes) ∙ got_total starts past n (Link n (Got bytes)) (status past n)

datagram_total : (starts : Starts) (past : Past) (n count : ℕ) (entry : Entry) (at : Status)
    → total starts past n entry (because.Datagram count) at ≡ cond (is_udp at) (cond (has_place count (rx_free starts past n)) 4 0) 0
datagram_total starts past n count entry status_is.Udp = receive_value (has_place count (rx_free starts past n))
datagram_total starts past n count entry at = refl

pub datagram_raises : (starts : Starts) (past : Past) (n : ℕ) (from : Addr) (body : List ℕ)
    → interrupts_by starts past n (Link n (Datagram from body)) ≡ cond (is_udp (status past n)) (cond (has_place (length body) (rx_free starts past n)) 4 0) 0
datagram_raises starts past n from body =
    total_is starts past n (Datagram from body) ∙ datagram_total starts past n (length body) (Link n (Datagram from body)) (status past n)

-- A SEND that fits goes through; what is in flight is due.
use Rattle.std.proofs.Common.{◌≡◌, ◌≤◌, ◌<◌, ℕ, ◌+◌, ◌-◌, ◌*◌, Bool, true, false, ◌&&◌, cond, eqb, ltb, leb, [], ◌∷◌, ◌++◌, length, Option, None, Some, inl, inr, refl, ap, ◌∙◌, arith, ◌⊎◌}
use Rattle.std.proofs.lemmas.Bool.{cond-true, and_right, ne_eqb, eq-eqb}
use Rattle.board_bus.specs.declared.event.BusEvent.{BusEvent}
use Rattle.board_bus.specs.declared.event.BusAnswer.{BusAnswer}
use Rattle.chip_sheet.specs.declared.event.Addr.{Addr}
use Rattle.chip_sheet.specs.declared.event.ConnId.{ConnId}
use Rattle.chip_sheet.specs.declared.event.Entry.TheVariants.{Bus}
use Rattle.chip_sheet.specs.declared.phase.Access.{Access}
use Rattle.chip_sheet.specs.declared.phase.Access.TheVariants.{Write}
use Rattle.chip_sheet.specs.declared.block.Block.{Block}
use Rattle.chip_sheet.specs.declared.stop.ChipStop.{ChipStop}
use Rattle.chip_sheet.specs.declared.stop.ChipStop.TheVariants.{SendBusy, SendTooLong}
use Rattle.chip_sheet.specs.declared.socket.Status.{Status}
use Rattle.chip_sheet.specs.declared.socket.Status.TheVariants.{SynSent, Established, FinWait, CloseWait, LastAck, Udp}
use Rattle.chip_sheet.specs.declared.socket.Cause.{Cause}
use Rattle.chip_sheet.specs.declared.socket.Cause.TheVariants as because
use Rattle.chip_sheet.specs.declared.socket.Due.{Due}
use Rattle.chip_sheet.specs.declared.socket.Due.TheVariants as due
use Rattle.chip_sheet.specs.Past.{Past}
use Rattle.chip_sheet.specs.Frames.{access}
use Rattle.chip_sheet.specs.Blocks.{registers_of}
use Rattle.chip_sheet.specs.Registers.{is_reset}
use Rattle.chip_sheet.specs.Life.{cause_by, command, protocol, status, lives, old, life, is_udp}
use Rattle.chip_sheet.specs.Streams.{Starts, sent, sent_by, sends, range, range_length, is_open}
use Rattle.chip_sheet.specs.Windows.{flight, tx_free}
use Rattle.chip_sheet.specs.LinkCalls.{outgoing, outgoing_in, connection, kept_address, kept_port}
use Rattle.chip_sheet.specs.Stops.{Writes, block_access, where_it, first, stop_by, stop, command_stop, command_facts}
use Rattle.chip_sheet.proofs.StopRows.{registers_block}

-- A byte that is written to Sn_CR is the command that it says.
no_reset_there : (n addr v : ℕ) → is_reset (Write (registers_of n) addr v) ≡ false
no_reset_there n addr v = ap (λ (b : Bool). b && eqb addr 0x00 && leb 128 v) (ne_eqb (4 * n + 1) 0 (λ e. omega (arith, e)))

pub command_cause : (past : Past) (n v : ℕ) → cause_by past n (Write (registers_of n) 0x01 v) ≡ command (protocol past n) v
command_cause past n v =
    let asked = command (protocol past n) v in
    ap (λ (r : Bool). cond r because.Reset (cond (eqb (registers_of n) (registers_of n) && true) asked because.Nothing)) (no_reset_there n 0x01 v)
    ∙ ap (λ (here : Bool). cond (here && true) asked because.Nothing) (eq-eqb (registers_of n) (registers_of n) refl)

-- Its stops are those of the command.
pub command_stops : (starts : Starts) (past : Past) (e : BusEvent) (n v : ℕ) → access past e ≡ Write (registers_of n) 0x01 v → command_stop n (command_facts starts past n) v ≡ None → stop starts past e ≡ None
command_stops starts past e n v is none =
    ap (λ (made : Access). stop_by starts past (block_access made)) is
    ∙ ap (λ (b : Block). stop_by starts past (Writes (registers_of n) b 0x01 v)) (registers_block n)
    ∙ ap (λ (row : Option ChipStop). first (row ∷ [])) none

where_not : (b : Bool) (s : ChipStop) → b ≡ false → where_it b s ≡ None
where_not b s h = ap (λ (c : Bool). where_it c s) h

two_rows : (a b : Option ChipStop) → a ≡ None → b ≡ None → first (a ∷ b ∷ None ∷ []) ≡ None
two_rows a b h k = ap (λ (x : Option ChipStop). first (x ∷ b ∷ None ∷ [])) h ∙ ap (λ (x : Option ChipStop). first (x ∷ None ∷ [])) k

not_less : (a b : ℕ) → b ≤ a → ltb a b ≡ false
not_less a b h = grind arith

pub is_less : (a b : ℕ) → a < b → ltb a b ≡ true
is_less a b h = grind arith

pub send_goes : (starts : Starts) (past : Past) (e : BusEvent) (n : ℕ) → access past e ≡ Write (registers_of n) 0x01 0x20 → sends (status past n) ≡ true
    → (is_udp (status past n) ≡ true → flight starts past n ≡ 0) → range_length starts past n (length (sent starts past n (lives past n))) ≤ tx_free starts past n
    → stop starts past e ≡ None
send_goes starts past e n is takes idle fits =
    let len = range_length starts past n (length (sent starts past n (lives past n))) in
    let free = tx_free starts past n in
    command_stops starts past e n 0x20 is
    (two_rows _ _
    (where_not (is_udp (status past n) && ltb 0 (flight starts past n)) (SendBusy n) (busy (is_udp (status past n)) (flight starts past n) idle))
    (where_not (sends (status past n) && ltb free len) (SendTooLong n len free) (and_right (sends (status past n)) (ltb free len) (not_less free len fits))))
  where
    busy : (udp : Bool) (fl : ℕ) → (udp ≡ true → fl ≡ 0) → (udp && ltb 0 fl) ≡ false
    busy true fl idle = ap (ltb 0) (idle refl)
    busy false fl idle = refl

pub send_adds : (starts : Starts) (past : Past) (e : BusEvent) (a : BusAnswer) (n : ℕ) → access past e ≡ Write (registers_of n) 0x01 0x20 → sends (status past n) ≡ true
    → sent starts (Bus e a ∷ past) n (lives past n) ≡ sent starts past n (lives past n) ++ range starts past n (length (sent starts past n (lives past n)))
send_adds starts past e a n is takes =
    let before = sent starts past n (lives past n) in
    ap (λ (why : Cause). sent_by starts past n (lives past n) why before) (ap (cause_by past n) is ∙ command_cause past n 0x20)
    ∙ ap (λ (b : Bool). cond (b && eqb (lives past n) (lives past n)) (before ++ range starts past n (length before)) before) takes
    ∙ ap (λ (b : Bool). cond b (before ++ range starts past n (length before)) before) (eq-eqb (lives past n) (lives past n) refl)

-- What is in flight is due.
due_of : (at : Status) (c : ConnId) (to : Addr) (port fl : ℕ) (shut : Bool) → 0 < fl → is_open at ≡ true → (outgoing_in at c to port fl shut ≡ due.Write c) ⊎ (outgoing_in at c to port fl shut ≡ due.SendTo c port to)
due_of Established c to port fl shut some on = inl (cond-true (ltb 0 fl) (due.Write c) due.Nothing (is_less 0 fl some))
due_of CloseWait c to port fl shut some on = inl (cond-true (ltb 0 fl) (due.Write c) due.Nothing (is_less 0 fl some))
due_of FinWait c to port fl shut some on = inl (cond-true (ltb 0 fl) (due.Write c) _ (is_less 0 fl some))
due_of LastAck c to port fl shut some on = inl (cond-true (ltb 0 fl) (due.Write c) _ (is_less 0 fl some))
due_of Udp c to port fl shut some on = inr (cond-true (ltb 0 fl) (due.SendTo c port to) due.Nothing (is_less 0 fl some))
due_of SynSent c to port fl shut some on = cc
due_of at c to port fl shut some on = cc

open_flight : (starts : Starts) (past : Past) (n : ℕ) → 0 < flight starts past n → is_open (status past n) ≡ true
open_flight starts past n some = by (is_open (status past n)) _ some
  where
    by : (b : Bool) (x : ℕ) → 0 < cond b x 0 → b ≡ true
    by true x h = refl
    by false x h = absurd (omega (arith, h))

pub flight_due : (starts : Starts) (past : Past) (n : ℕ) → old past n ≡ None → 0 < flight starts past n
    → (outgoing starts past n ≡ due.Write (connection n (lives past n))) ⊎ (outgoing starts past n ≡ due.SendTo (connection n (lives past n)) (kept_port past n) (kept_address past n))
flight_due starts past n none some =
    let c = connection n (lives past n) in
    let call = outgoing_in (status past n) c (kept_address past n) (kept_port past n) (flight starts past n) (life past n).shut in
    let no_old : outgoing starts past n ≡ call = ap (λ (o : Option ℕ). elim o as (λ x. Due) [ None ↦ call | Some l ↦ due.Drop (connection n l) ]) none in
    elim (due_of (status past n) c (kept_address past n) (kept_port past n) (flight starts past n) (life past n).shut some (open_flight starts past n some)) [
      | inl write ↦ inl (no_old ∙ write)
      | inr send ↦ inr (no_old ∙ send)
    ]

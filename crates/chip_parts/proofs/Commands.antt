-- The parts after a command that is no SEND and no RECV, and its stop.
use Rattle.std.proofs.Common.{◌≡◌, ◌≢◌, ◌<◌, ℕ, Bool, true, false, ◌&&◌, cond, eqb, ltb, List, [], ◌∷◌, length, set, get_or, Option, None, Some, refl, sym, ap, ◌∙◌, subst}
use Rattle.std.proofs.lemmas.Bool.{ne_eqb}
use Rattle.std.proofs.lemmas.List.{get_or-set_same, get_or-set_other}
use Rattle.board_bus.specs.declared.event.BusEvent.{BusEvent}
use Rattle.board_bus.specs.declared.event.BusAnswer.{BusAnswer}
use Rattle.chip_sheet.specs.declared.event.Entry.TheVariants.{Bus}
use Rattle.chip_sheet.specs.declared.phase.Access.TheVariants.{Write}
use Rattle.chip_sheet.specs.declared.socket.Cause.{Cause}
use Rattle.chip_sheet.specs.declared.socket.Cause.TheVariants as because
use Rattle.chip_sheet.specs.declared.stop.ChipStop.{ChipStop}
use Rattle.chip_sheet.specs.declared.stop.ChipStop.TheVariants.{SendBusy, SendTooLong, RecvPastEnd}
use Rattle.chip_sheet.specs.Past.{Past}
use Rattle.chip_sheet.specs.Frames.{access}
use Rattle.chip_sheet.specs.Blocks.{registers_of}
use Rattle.chip_sheet.specs.Life.{cause, command, opening, protocol, protocol_of, status, is_udp}
use Rattle.chip_sheet.specs.Sending.{Sending}
use Rattle.chip_sheet.specs.Receiving.{Receiving}
use Rattle.chip_sheet.specs.Streams.{Starts, sends, is_open}
use Rattle.chip_sheet.specs.Buffers.{sending, receiving}
use Rattle.chip_sheet.specs.Stops.{stop, first, where_it, command_facts, send_busy, send_too_long, recv_past_end}
use Rattle.chip_steps.specs.Steps.{is_quiet}
use Rattle.chip_steps.proofs.StopSteps.{writes_command}
use Rattle.sock_cmd.specs.declared.life.Life.{Life}
use Rattle.sock_cmd.specs.declared.command.CmdAt.{CmdAt}
use Rattle.sock_cmd.specs.declared.command.Effect.{Effect}
use Rattle.sock_cmd.specs.Effects.{cause_of, effect_of}
use Rattle.sock_cmd.specs.LifeStops.{life_stop}
use Rattle.sock_cmd.specs.Lives.{life_of, IsAfter, Happened}
use Rattle.sock_cmd.proofs.StopOrder.{in_order}
use Rattle.ring_mem.specs.declared.rings.Rings.{Rings}
use Rattle.ring_mem.specs.Buffers.{TxHolds, RxHolds, OthersSend, OthersReceive, tx_kilobytes, rx_kilobytes}
use Rattle.chip_parts.specs.declared.parts.Parts.{Parts}
use Rattle.chip_parts.specs.Holding.{Holds, Shows, Found}
use Rattle.chip_parts.specs.Passing.{passed}
use Rattle.chip_parts.specs.Settling.{settled, got_settled}
use Rattle.chip_parts.proofs.Taking.{why_is, alone_is, life_goes, taken_steps}
use Rattle.chip_parts.proofs.Settling.{sent_settled, received_settled}

-- Any other byte asks for nothing, or for a command that is quiet.
either : (b : Bool) (x y : Cause) → is_quiet x ≡ true → is_quiet y ≡ true → is_quiet (cond b x y) ≡ true
either true x y h k = h
either false x y h k = k

not_here : (b : Bool) (x y : Cause) → b ≡ false → is_quiet y ≡ true → is_quiet (cond b x y) ≡ true
not_here true x y h k = cc
not_here false x y h k = k

quiet_byte : (p v : ℕ) → v ≢ 0x20 → v ≢ 0x40 → is_quiet (command p v) ≡ true
quiet_byte p v send recv =
    either (eqb v 0x01) (opening p) _ (either (eqb p 1) because.OpenTcp _ refl (either (eqb p 2) because.OpenUdp because.Nothing refl refl))
    (either (eqb v 0x02) because.Listen _ refl
    (either (eqb v 0x04) because.Connect _ refl
    (either (eqb v 0x08) because.Disconnect _ refl
    (either (eqb v 0x10) because.Close _ refl
    (not_here (eqb v 0x20) because.Send _ (ne_eqb v 0x20 send)
    (not_here (eqb v 0x40) because.Receive because.Nothing (ne_eqb v 0x40 recv) refl))))))

pub quiet_is : (past : Past) (e : BusEvent) (a : BusAnswer) (n v : ℕ) → access past e ≡ Write (registers_of n) 0x01 v → v ≢ 0x20 → v ≢ 0x40 → is_quiet (cause past n (Bus e a)) ≡ true
quiet_is past e a n v is send recv = ap is_quiet (why_is past e a n v is) ∙ quiet_byte (protocol past n) v send recv

-- It passes no bytes to SEND.
passes_none : (starts : Starts) (past : Past) (n : ℕ) (why : Cause) → is_quiet why ≡ true → 0 ≡ passed starts past n why
passes_none starts past n because.Send h = cc
passes_none starts past n why h = refl

pub quiet_passes : (starts : Starts) (past : Past) (e : BusEvent) (a : BusAnswer) (n v : ℕ) → access past e ≡ Write (registers_of n) 0x01 v → v ≢ 0x20 → v ≢ 0x40 → 0 ≡ passed starts past n (cause past n (Bus e a))
quiet_passes starts past e a n v is send recv = passes_none starts past n (cause past n (Bus e a)) (quiet_is past e a n v is send recv)

-- Its stop.
only_first : (o : Option ChipStop) → first (o ∷ None ∷ None ∷ None ∷ []) ≡ o
only_first None = refl
only_first (Some s) = refl

pub stop_is : (starts : Starts) (past : Past) (e : BusEvent) (n v : ℕ) (at : CmdAt) (socket : Life) → access past e ≡ Write (registers_of n) 0x01 v → v ≢ 0x20 → v ≢ 0x40 → Found past n at → IsAfter socket past n
    → stop starts past e ≡ life_stop at.sn (life_of socket).status at.mr at.sizes_valid v
stop_is starts past e n v at socket is send recv found life =
    let facts = command_facts starts past n in
    let own = life_stop n facts.status facts.mode facts.valid v in
    let no_send = ne_eqb v 0x20 send in
    let no_recv = ne_eqb v 0x40 recv in
    let busy : send_busy n facts.status facts.flight v ≡ None = ap (λ (b : Bool). where_it (b && is_udp facts.status && ltb 0 facts.flight) (SendBusy n)) no_send in
    let long : send_too_long n facts.status facts.len facts.free v ≡ None = ap (λ (b : Bool). where_it (b && sends facts.status && ltb facts.free facts.len) (SendTooLong n facts.len facts.free)) no_send in
    let end : recv_past_end n facts.status facts.asked facts.there v ≡ None = ap (λ (b : Bool). where_it (b && is_open facts.status && ltb facts.there facts.asked) (RecvPastEnd n facts.asked facts.there)) no_recv in
    writes_command starts past e n v is
    ∙ in_order n facts v
    ∙ (λ i. first (own ∷ busy i ∷ long i ∷ end i ∷ []))
    ∙ only_first own
    ∙ sym (λ i. life_stop (found.sn i) (life.life i).status (found.mode i) (found.valid i) v)

pub command_steps : (starts : Starts) (past : Past) (e : BusEvent) (a : BusAnswer) (sn v : ℕ) (old new : Parts) (at : CmdAt) (effect : Effect) (rings : Rings) (before after : Life)
    → sn < 8 → sn < length old.lives → Holds starts old past → access past e ≡ Write (registers_of sn) 0x01 v → v ≢ 0x20 → v ≢ 0x40 → Found past sn at
    → IsAfter before past sn → Happened before (cause_of v at) at.to at.port after → effect ≡ effect_of (life_of before).status (cause_of v at)
    → ((s : Sending) → TxHolds old.rings sn s → TxHolds rings sn (settled effect s)) → ((g : Receiving) → RxHolds old.rings sn g → RxHolds rings sn (got_settled effect g))
    → OthersSend old.rings rings sn → OthersReceive old.rings rings sn → tx_kilobytes rings ≡ tx_kilobytes old.rings → rx_kilobytes rings ≡ rx_kilobytes old.rings
    → Shows starts new (Bus e a ∷ past)
    → new ≡ record old { lives = set old.lives sn after; rings = rings; registers = new.registers; sir = new.sir }
    → Holds starts new (Bus e a ∷ past)
command_steps starts past e a sn v old new at effect rings before after below within held is send recv found life happened came tx rx other_tx other_rx tx_same rx_same shows same =
    let entry = Bus e a in
    let by_itself = alone_is past e sn v is in
    let quiet = quiet_is past e a sn v is send recv in
    let why : cause_of v at ≡ cause past sn entry = ap (λ (m : ℕ). command (protocol_of m) v) found.mode ∙ sym (why_is past e a sn v is) in
    let effect_is : effect ≡ effect_of (status past sn) (cause past sn entry) = came ∙ (λ i. effect_of (life.life i).status (why i)) in
    let lives : new.lives ≡ set old.lives sn after = ap (λ (p : Parts). p.lives) same in
    let now : IsAfter after (entry ∷ past) sn = life_goes past e a sn v at before after is found life happened in
    let sent : sending starts (entry ∷ past) sn ≡ settled effect (sending starts past sn) =
    sent_settled starts past entry sn by_itself quiet ∙ sym (ap (λ (x : Effect). settled x (sending starts past sn)) effect_is) in
    let received : receiving starts (entry ∷ past) sn ≡ got_settled effect (receiving starts past sn) =
    received_settled starts past entry sn by_itself quiet ∙ sym (ap (λ (x : Effect). got_settled x (receiving starts past sn)) effect_is) in
    taken_steps starts past e a sn v old new rings held is
    (record {
      life = λ other. subst (λ (l : Life). IsAfter l (entry ∷ past) sn) (sym (ap (λ (ls : List Life). get_or ls sn other) lives ∙ get_or-set_same old.lives sn after other within)) now;
      other_lives = λ m other away. ap (λ (ls : List Life). get_or ls m other) lives ∙ get_or-set_other old.lives sn m after other away;
      tx = subst (λ (s : Sending). TxHolds rings sn s) (sym sent) (tx (sending starts past sn) (held.tx sn below));
      rx = subst (λ (g : Receiving). RxHolds rings sn g) (sym received) (rx (receiving starts past sn) (held.rx sn below));
      other_tx = other_tx;
      other_rx = other_rx;
      tx_sizes = tx_same;
      rx_sizes = rx_same;
      shows = shows;
      same = same ∙ ap (λ (ls : List Life). record old { lives = ls; rings = rings; registers = new.registers; sir = new.sir }) (sym lives);
    })

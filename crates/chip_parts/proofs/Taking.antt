-- The parts after a command, where its life, its registers and its buffers have taken it.
use Rattle.std.proofs.Common.{◌≡◌, ◌≢◌, ℕ, true, eqb, ◌∷◌, get_or, Option, None, Some, Result, Ok, Err, refl, sym, ap, ◌∙◌, subst}
use Rattle.std.specs.Prelude.{OnOk, IfErr}
use Rattle.std.proofs.lemmas.Bool.{and_from, eq-eqb}
use Rattle.board_bus.specs.declared.event.BusEvent.{BusEvent}
use Rattle.board_bus.specs.declared.event.BusAnswer.{BusAnswer}
use Rattle.chip_sheet.specs.declared.event.Addr.{Addr}
use Rattle.chip_sheet.specs.declared.event.Entry.{Entry}
use Rattle.chip_sheet.specs.declared.event.Entry.TheVariants.{Bus}
use Rattle.chip_sheet.specs.declared.phase.Access.{Access}
use Rattle.chip_sheet.specs.declared.phase.Access.TheVariants.{Write}
use Rattle.chip_sheet.specs.declared.socket.Status.{Status}
use Rattle.chip_sheet.specs.declared.socket.Cause.{Cause}
use Rattle.chip_sheet.specs.declared.stop.ChipStop.{ChipStop}
use Rattle.chip_sheet.specs.Past.{Past}
use Rattle.chip_sheet.specs.Frames.{access}
use Rattle.chip_sheet.specs.Blocks.{registers_of}
use Rattle.chip_sheet.specs.Life.{Facts, facts_of, life, next, cause, cause_by, command, protocol, protocol_of, status}
use Rattle.chip_sheet.specs.Peers.{destination, source_port}
use Rattle.chip_sheet.specs.Sending.{Sending}
use Rattle.chip_sheet.specs.Receiving.{Receiving}
use Rattle.chip_sheet.specs.Streams.{Starts}
use Rattle.chip_sheet.specs.Buffers.{sending, receiving}
use Rattle.chip_sheet.proofs.SendLaws.{command_cause}
use Rattle.chip_steps.specs.Steps.{writes_command_alone}
use Rattle.chip_steps.proofs.Going.{status_next}
use Rattle.chip_steps.proofs.Writing.{alone}
use Rattle.chip_steps.proofs.Elsewhere.{other_registers}
use Rattle.sock_cmd.specs.declared.life.Life.{Life}
use Rattle.sock_cmd.specs.declared.command.CmdAt.{CmdAt}
use Rattle.sock_cmd.specs.declared.command.Effect.{Effect}
use Rattle.sock_cmd.specs.Effects.{cause_of}
use Rattle.sock_cmd.specs.Lives.{IsAfter, Happened}
use Rattle.sock_cmd.proofs.SocketLives.{goes_on}
use Rattle.ring_mem.specs.declared.rings.Rings.{Rings}
use Rattle.ring_mem.specs.declared.sends.Sends.{Sends}
use Rattle.ring_mem.specs.declared.receives.Receives.{Receives}
use Rattle.ring_mem.specs.TxHolds as tx_of
use Rattle.ring_mem.specs.RxHolds as rx_of
use Rattle.ring_mem.specs.Buffers.{TxHolds, RxHolds, OthersSend, OthersReceive, SameTx, SameRx, tx_kilobytes, rx_kilobytes}
use Rattle.chip_parts.specs.declared.parts.Parts.{Parts}
use Rattle.chip_parts.specs.Holding.{Holds, Shows, Found, OthersUntouched}
use Rattle.chip_parts.proofs.Stepping.{not_common}
use Rattle.chip_parts.proofs.Assembly.{one_steps}

-- The write is the command of its byte, and nothing else.
pub why_is : (past : Past) (e : BusEvent) (a : BusAnswer) (n v : ℕ) → access past e ≡ Write (registers_of n) 0x01 v → cause past n (Bus e a) ≡ command (protocol past n) v
why_is past e a n v is = ap (cause_by past n) is ∙ command_cause past n v

pub alone_is : (past : Past) (e : BusEvent) (n v : ℕ) → access past e ≡ Write (registers_of n) 0x01 v → writes_command_alone (access past e) n ≡ true
alone_is past e n v is = ap (λ (m : Access). writes_command_alone m n) is ∙ and_from (eqb (registers_of n) (registers_of n)) true (eq-eqb (registers_of n) (registers_of n) refl) refl

pub byte_is : (past : Past) (e : BusEvent) (n v w : ℕ) → v ≡ w → access past e ≡ Write (registers_of n) 0x01 v → access past e ≡ Write (registers_of n) 0x01 w
byte_is past e n v w same is = is ∙ ap (λ (b : ℕ). Write (registers_of n) 0x01 b) same

-- A command that has no stop of its own is taken.
pub went : (r : Result Effect ChipStop) (P : Type 0) (o : Option ChipStop) → OnOk r P → IfErr r (λ s. o ≡ Some s) → o ≡ None → P
went (Ok x) P o h f none = h
went (Err s) P o h f none = let x = sym none ∙ f in cc

-- The life of the socket after it.
happened_so : (before after : Life) (why other : Cause) (to to' : Addr) (port port' : ℕ) → why ≡ other → to ≡ to' → port ≡ port' → Happened before why to port after → Happened before other to' port' after
happened_so before after why other to to' port port' e f g h =
    subst (λ (p : ℕ). Happened before other to' p after) g (subst (λ (t : Addr). Happened before other t port after) f (subst (λ (w : Cause). Happened before w to port after) e h))

pub life_goes : (past : Past) (e : BusEvent) (a : BusAnswer) (sn v : ℕ) (at : CmdAt) (before after : Life) → access past e ≡ Write (registers_of sn) 0x01 v → Found past sn at → IsAfter before past sn
    → Happened before (cause_of v at) at.to at.port after → IsAfter after (Bus e a ∷ past) sn
life_goes past e a sn v at before after is found was happened =
    let entry = Bus e a in
    let why : cause_of v at ≡ cause past sn entry = ap (λ (m : ℕ). command (protocol_of m) v) found.mode ∙ sym (why_is past e a sn v is) in
    goes_on before after past entry sn was (happened_so before after (cause_of v at) (cause past sn entry) at.to (destination past sn) at.port (source_port past sn) why found.to found.port happened)

-- A command that moves no socket to another status leaves its status.
pub status_kept : (past : Past) (entry : Entry) (n : ℕ) (why : Cause) → cause past n entry ≡ why → ((at : Status) (facts : Facts) → next at why facts ≡ at) → status (entry ∷ past) n ≡ status past n
status_kept past entry n why is stays =
    let at = life past n in
    status_next at (cause past n entry) ∙ ap (λ (w : Cause). next at.status w (facts_of w at)) is ∙ stays at.status (facts_of why at)

-- A direction of the buffers that has not changed stands for what it stood for.
pub same_tx : (old new : Rings) (n : ℕ) (s : Sending) → SameTx old new → TxHolds old n s → TxHolds new n s
same_tx old new n s same was = subst (λ (r : Sends). tx_of.Holds r n s) (sym same) was

pub same_rx : (old new : Rings) (n : ℕ) (g : Receiving) → SameRx old new → RxHolds old n g → RxHolds new n g
same_rx old new n g same was = subst (λ (r : Receives). rx_of.RxHolds r n g) (sym same) was

-- What the socket is after it, and what stays of the other seven and of the common registers.
pub record Took (starts : Starts) (past : Past) (e : BusEvent) (a : BusAnswer) (sn : ℕ) (old new : Parts) (rings : Rings) : Type 0 where
  pub life : (other : Life) → IsAfter (get_or new.lives sn other) (Bus e a ∷ past) sn
  pub other_lives : (m : ℕ) (other : Life) → m ≢ sn → get_or new.lives m other ≡ get_or old.lives m other
  pub tx : TxHolds rings sn (sending starts (Bus e a ∷ past) sn)
  pub rx : RxHolds rings sn (receiving starts (Bus e a ∷ past) sn)
  pub other_tx : OthersSend old.rings rings sn
  pub other_rx : OthersReceive old.rings rings sn
  pub tx_sizes : tx_kilobytes rings ≡ tx_kilobytes old.rings
  pub rx_sizes : rx_kilobytes rings ≡ rx_kilobytes old.rings
  pub shows : Shows starts new (Bus e a ∷ past)
  pub same : new ≡ record old { lives = new.lives; rings = rings; registers = new.registers; sir = new.sir }

-- A command touches no other socket.
pub other_sockets : (past : Past) (e : BusEvent) (a : BusAnswer) (sn v : ℕ) → access past e ≡ Write (registers_of sn) 0x01 v → OthersUntouched past (Bus e a) sn
other_sockets past e a sn v is = λ m away.
    let only = alone past (Bus e a) sn (alone_is past e sn v is) in
    other_registers past e a sn m 0x01 v away is only.tx only.rx

pub taken_steps : (starts : Starts) (past : Past) (e : BusEvent) (a : BusAnswer) (sn v : ℕ) (old new : Parts) (rings : Rings) → Holds starts old past → access past e ≡ Write (registers_of sn) 0x01 v
    → Took starts past e a sn old new rings → Holds starts new (Bus e a ∷ past)
taken_steps starts past e a sn v old new rings held is took =
    let entry = Bus e a in
    let only = alone past entry sn (alone_is past e sn v is) in
    let here : new.rings ≡ rings = ap (λ (p : Parts). p.rings) took.same in
    one_steps starts past entry sn old new held
    (record {
      on = only.reset;
      elsewhere = not_common (access past e) sn 0x01 v is;
      no_tx_size = only.tx;
      no_rx_size = only.rx;
      others = other_sockets past e a sn v is;
      tx_start = ap (λ (p : Parts). p.tx_start) took.same;
      rx_start = ap (λ (p : Parts). p.rx_start) took.same;
      common = ap (λ (p : Parts). p.common) took.same;
      shows = took.shows;
      life = took.life;
      other_lives = took.other_lives;
      tx = subst (λ (r : Rings). TxHolds r sn (sending starts (entry ∷ past) sn)) (sym here) took.tx;
      rx = subst (λ (r : Rings). RxHolds r sn (receiving starts (entry ∷ past) sn)) (sym here) took.rx;
      other_tx = subst (λ (r : Rings). OthersSend old.rings r sn) (sym here) took.other_tx;
      other_rx = subst (λ (r : Rings). OthersReceive old.rings r sn) (sym here) took.other_rx;
      tx_sizes = ap tx_kilobytes here ∙ took.tx_sizes;
      rx_sizes = ap rx_kilobytes here ∙ took.rx_sizes;
    })

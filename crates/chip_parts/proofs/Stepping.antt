-- The registers of the sockets and SIR after a write to one of them, and what stays of the rest.
use Rattle.std.proofs.Common.{◌≡◌, ◌≢◌, ◌<◌, ℕ, ◌^◌, Bool, false, ◌&&◌, eqb, leb, List, ◌∷◌, length, set, get_or, inl, inr, sym, ap, ◌∙◌, subst, arith}
use Rattle.std.proofs.lemmas.Bool.{cases_eq, cond-false, and_right, ne_eqb}
use Rattle.std.proofs.lemmas.List.{get_or-set_same, get_or-set_other}
use Rattle.board_bus.specs.declared.event.BusEvent.{BusEvent}
use Rattle.board_bus.specs.declared.event.BusAnswer.{BusAnswer}
use Rattle.chip_sheet.specs.declared.event.Entry.{Entry}
use Rattle.chip_sheet.specs.declared.event.Entry.TheVariants.{Bus}
use Rattle.chip_sheet.specs.declared.phase.Access.{Access}
use Rattle.chip_sheet.specs.declared.phase.Access.TheVariants.{Write}
use Rattle.chip_sheet.specs.declared.socket.Cause.TheVariants as because
use Rattle.chip_sheet.specs.Past.{Past}
use Rattle.chip_sheet.specs.Frames.{access}
use Rattle.chip_sheet.specs.Bits.{has_bit}
use Rattle.chip_sheet.specs.Blocks.{registers_of}
use Rattle.chip_sheet.specs.Registers.{is_reset}
use Rattle.chip_sheet.specs.Life.{cause, cause_by, command, protocol}
use Rattle.chip_sheet.specs.Streams.{Starts}
use Rattle.chip_sheet.specs.Quiet.{writes_to}
use Rattle.chip_sheet.specs.Interrupts.{interrupts_by, interrupt_register, mask, sir_register}
use Rattle.chip_sheet.specs.SocketBlock.{socket_register}
use Rattle.chip_steps.proofs.ReadSteps.{untouched_reads, asks_same}
use Rattle.sock_regs.specs.declared.registers.SockRegs.{SockRegs}
use Rattle.sock_regs.specs.Holding.{Reads}
use Rattle.sock_regs.specs.Places.{after_write, after_raise}
use Rattle.sock_regs.proofs.History.{writes, by_name}
use Rattle.irq_lines.specs.Lines.{meets}
use Rattle.irq_lines.proofs.Following.{renewed}
use Rattle.chip_parts.specs.Holding.{OthersUntouched}

-- The registers of the socket itself.
pub written_reads : (starts : Starts) (past : Past) (e : BusEvent) (a : BusAnswer) (sn addr v bits : ℕ) (before written now : SockRegs)
    → Reads before (socket_register starts past sn) → ((f : ℕ → ℕ) → Reads before f → Reads written (after_write addr v f)) → ((f : ℕ → ℕ) → Reads written f → Reads now (after_raise bits f))
    → access past e ≡ Write (registers_of sn) addr v → bits ≡ interrupts_by starts past sn (Bus e a) → Reads now (socket_register starts (Bus e a ∷ past) sn)
written_reads starts past e a sn addr v bits before written now held write raise is raised at here =
    let f = socket_register starts past sn in
    raise (after_write addr v f) (write f held) at here
    ∙ ap (λ (b : ℕ). after_raise b (after_write addr v f) at) raised
    ∙ writes starts past e a sn addr v at is here

-- Those of all eight.
pub all_read : (starts : Starts) (past : Past) (entry : Entry) (sn : ℕ) (regs : List SockRegs) (now : SockRegs) → sn < length regs → Reads now (socket_register starts (entry ∷ past) sn)
    → ((n : ℕ) (other : SockRegs) → n < 8 → Reads (get_or regs n other) (socket_register starts past n)) → OthersUntouched past entry sn
    → (n : ℕ) (other : SockRegs) → n < 8 → Reads (get_or (set regs sn now) n other) (socket_register starts (entry ∷ past) n)
all_read starts past entry sn regs now within own held others n other below =
    elim (cases_eq n sn) [
      | inl is ↦
          let found : get_or (set regs sn now) n other ≡ now = ap (λ (k : ℕ). get_or (set regs sn now) k other) is ∙ get_or-set_same regs sn now other within in
          subst (λ (r : SockRegs). Reads r (socket_register starts (entry ∷ past) n)) (sym found) (subst (λ (k : ℕ). Reads now (socket_register starts (entry ∷ past) k)) (sym is) own)
      | inr away ↦
          let found : get_or (set regs sn now) n other ≡ get_or regs n other = get_or-set_other regs sn n now other away in
          subst (λ (r : SockRegs). Reads r (socket_register starts (entry ∷ past) n)) (sym found)
          (λ at here. held n other below at here ∙ sym (untouched_reads starts past entry n at (others n away)))
    ]

-- SIR.
pub sir_renewed : (starts : Starts) (past : Past) (entry : Entry) (sn before now ir imr : ℕ) → sn < 8 → now < 256 → before ≡ sir_register starts past
    → ir ≡ interrupt_register starts (entry ∷ past) sn → imr ≡ mask (entry ∷ past) sn → has_bit now (2 ^ sn) ≡ meets ir imr
    → ((m : ℕ) → m < 8 → m ≢ sn → has_bit now (2 ^ m) ≡ has_bit before (2 ^ m)) → OthersUntouched past entry sn → now ≡ sir_register starts (entry ∷ past)
sir_renewed starts past entry sn before now ir imr below low was ir_is imr_is own same others =
    renewed starts past entry sn now below low
    (own ∙ (λ i. meets (ir_is i) (imr_is i)))
    (λ m in_range away. same m in_range away ∙ ap (λ (s : ℕ). has_bit s (2 ^ m)) was)
    (λ m in_range away. asks_same starts past entry m (others m away))

pub ir_named : (starts : Starts) (past : Past) (n ir : ℕ) → ir ≡ socket_register starts past n 0x02 → ir ≡ interrupt_register starts past n
ir_named starts past n ir is = is ∙ (by_name starts past n).interrupts

pub imr_named : (starts : Starts) (past : Past) (n imr : ℕ) → imr ≡ socket_register starts past n 0x2C → imr ≡ mask past n
imr_named starts past n imr is = is ∙ (by_name starts past n).mask

-- A write to the registers that is no command.
pub no_reset_there : (n addr v : ℕ) → is_reset (Write (registers_of n) addr v) ≡ false
no_reset_there n addr v = ap (λ (b : Bool). b && eqb addr 0x00 && leb 128 v) (ne_eqb (registers_of n) 0 (λ z. omega (arith, z)))

pub plain_cause : (past : Past) (e : BusEvent) (a : BusAnswer) (n addr v : ℕ) → access past e ≡ Write (registers_of n) addr v → addr ≢ 0x01 → cause past n (Bus e a) ≡ because.Nothing
plain_cause past e a n addr v is other =
    ap (cause_by past n) is
    ∙ cond-false (is_reset (Write (registers_of n) addr v)) because.Reset _ (no_reset_there n addr v)
    ∙ cond-false (eqb (registers_of n) (registers_of n) && eqb addr 0x01) (command (protocol past n) v) because.Nothing
    (and_right (eqb (registers_of n) (registers_of n)) (eqb addr 0x01) (ne_eqb addr 0x01 other))

pub not_common : (made : Access) (n addr v : ℕ) → made ≡ Write (registers_of n) addr v → writes_to made 0 ≡ false
not_common made n addr v is = ap (λ (m : Access). writes_to m 0) is ∙ ne_eqb (registers_of n) 0 (λ z. omega (arith, z))

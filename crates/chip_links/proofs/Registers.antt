-- The registers, SIR and the life of a socket after a link event of it.
use Rattle.std.proofs.Common.{◌≡◌, ◌≢◌, ◌<◌, ℕ, ◌^◌, true, List, ◌∷◌, length, set, get_or, refl, sym, ap, ◌∙◌, subst}
use Rattle.std.proofs.lemmas.List.{get_or-set_same, get_or-set_other}
use Rattle.chip_sheet.specs.declared.event.Addr.{Addr}
use Rattle.chip_sheet.specs.declared.event.Entry.{Entry}
use Rattle.chip_sheet.specs.declared.event.Entry.TheVariants.{Link}
use Rattle.chip_sheet.specs.declared.event.LinkEntry.{LinkEntry}
use Rattle.chip_sheet.specs.declared.event.LinkEntry.TheVariants.{Accepted}
use Rattle.chip_sheet.specs.declared.socket.Cause.{Cause}
use Rattle.chip_sheet.specs.Past.{Past}
use Rattle.chip_sheet.specs.Bits.{has_bit}
use Rattle.chip_sheet.specs.Life.{happening}
use Rattle.chip_sheet.specs.Peers.{destination, source_port}
use Rattle.chip_sheet.specs.Streams.{Starts}
use Rattle.chip_sheet.specs.Interrupts.{interrupts_by}
use Rattle.chip_sheet.specs.SocketBlock.{socket_place, socket_register}
use Rattle.chip_steps.proofs.Going.{own_cause}
use Rattle.chip_steps.proofs.Elsewhere.{other_link}
use Rattle.sock_regs.specs.declared.registers.SockRegs.{SockRegs}
use Rattle.sock_regs.specs.Holding.{Reads}
use Rattle.sock_regs.specs.Places.{is_kept, after_raise}
use Rattle.sock_regs.proofs.History.{accepts, others}
use Rattle.irq_lines.specs.Lines.{meets}
use Rattle.sock_cmd.specs.declared.life.Life.{Life}
use Rattle.sock_cmd.specs.Lives.{IsAfter, Happened}
use Rattle.sock_cmd.proofs.SocketLives.{goes_on}
use Rattle.chip_parts.specs.declared.parts.Parts.{Parts}
use Rattle.chip_parts.specs.Holding.{Shows, OthersUntouched}
use Rattle.chip_parts.proofs.Stepping.{all_read, sir_renewed, ir_named, imr_named}
use Rattle.chip_links.specs.Noting.{peer_of, with_peer}

-- An accepted peer and the raised bits are all that a link event does to the registers of its socket.
peers : (starts : Starts) (past : Past) (what : LinkEntry) (n at : ℕ) → is_kept (socket_place at).shows ≡ true
    → after_raise (interrupts_by starts past n (Link n what)) (with_peer (peer_of what) (socket_register starts past n)) at ≡ socket_register starts (Link n what ∷ past) n at
peers starts past (Accepted from) n at here = accepts starts past from n at here
peers starts past what n at here = others starts past (Link n what) n at refl refl refl here

own_reads : (starts : Starts) (past : Past) (what other : LinkEntry) (sn bits : ℕ) (before peered now : SockRegs) → peer_of what ≡ peer_of other → Reads before (socket_register starts past sn)
    → ((f : ℕ → ℕ) → Reads before f → Reads peered (with_peer (peer_of other) f)) → ((f : ℕ → ℕ) → Reads peered f → Reads now (after_raise bits f))
    → bits ≡ interrupts_by starts past sn (Link sn what) → Reads now (socket_register starts (Link sn what ∷ past) sn)
own_reads starts past what other sn bits before peered now same held take raise is at here =
    let f = socket_register starts past sn in
    raise (with_peer (peer_of other) f) (take f held) at here
    ∙ ap (λ (b : ℕ). after_raise b (with_peer (peer_of other) f) at) is
    ∙ sym (ap (λ p. after_raise (interrupts_by starts past sn (Link sn what)) (with_peer p f) at) same)
    ∙ peers starts past what sn at here

-- The registers and SIR.
pub shown : (starts : Starts) (past : Past) (what other : LinkEntry) (sn bits sir ir imr : ℕ) (old new : Parts) (before peered raised : SockRegs)
    → sn < 8 → sn < length old.registers → peer_of what ≡ peer_of other → Shows starts old past → Reads before (socket_register starts past sn)
    → ((f : ℕ → ℕ) → Reads before f → Reads peered (with_peer (peer_of other) f)) → ((f : ℕ → ℕ) → Reads peered f → Reads raised (after_raise bits f))
    → bits ≡ interrupts_by starts past sn (Link sn what)
    → ((f : ℕ → ℕ) → Reads raised f → ir ≡ f 0x02) → ((f : ℕ → ℕ) → Reads raised f → imr ≡ f 0x2C)
    → sir < 256 → has_bit sir (2 ^ sn) ≡ meets ir imr → ((m : ℕ) → m < 8 → m ≢ sn → has_bit sir (2 ^ m) ≡ has_bit old.sir (2 ^ m))
    → new.registers ≡ set old.registers sn raised → new.sir ≡ sir → Shows starts new (Link sn what ∷ past)
shown starts past what other sn bits sir ir imr old new before peered raised below within same held own take raise is ir_is imr_is low own_bit other_bits registers sir_is =
    let entry = Link sn what in
    let untouched : OthersUntouched past entry sn = λ m away. other_link past sn m what away in
    let reads = own_reads starts past what other sn bits before peered raised same own take raise is in
    let f = socket_register starts (entry ∷ past) sn in
    record {
      registers = λ n d in_range. subst (λ (rs : List SockRegs). Reads (get_or rs n d) (socket_register starts (entry ∷ past) n)) (sym registers)
          (all_read starts past entry sn old.registers raised within reads held.registers untouched n d in_range);
      sir = sir_is ∙ sir_renewed starts past entry sn old.sir sir ir imr below low held.sir
          (ir_named starts (entry ∷ past) sn ir (ir_is f reads)) (imr_named starts (entry ∷ past) sn imr (imr_is f reads)) own_bit other_bits untouched;
    }

-- The lives.
happened_so : (before after : Life) (why other : Cause) (to : Addr) (port : ℕ) → why ≡ other → Happened before why to port after → Happened before other to port after
happened_so before after why other to port is it = subst (λ (w : Cause). Happened before w to port after) is it

pub lived : (past : Past) (what other : LinkEntry) (sn : ℕ) (before after : Life) → happening what ≡ happening other → IsAfter before past sn
    → ((to : Addr) (port : ℕ) → Happened before (happening other) to port after) → IsAfter after (Link sn what ∷ past) sn
lived past what other sn before after same is it =
    goes_on before after past (Link sn what) sn is
    (happened_so before after (happening other) _ (destination past sn) (source_port past sn) (sym (own_cause past sn what ∙ same)) (it (destination past sn) (source_port past sn)))

pub all_lived : (past : Past) (entry : Entry) (sn : ℕ) (old new : List Life) (after d : Life) → sn < length old → new ≡ set old sn after → IsAfter after (entry ∷ past) sn
    → IsAfter (get_or new sn d) (entry ∷ past) sn
all_lived past entry sn old new after d within is it =
    subst (λ (l : Life). IsAfter l (entry ∷ past) sn) (sym (ap (λ (ls : List Life). get_or ls sn d) is ∙ get_or-set_same old sn after d within)) it

pub others_lived : (sn m : ℕ) (old new : List Life) (after d : Life) → m ≢ sn → new ≡ set old sn after → get_or new m d ≡ get_or old m d
others_lived sn m old new after d away is = ap (λ (ls : List Life). get_or ls m d) is ∙ get_or-set_other old sn m after d away

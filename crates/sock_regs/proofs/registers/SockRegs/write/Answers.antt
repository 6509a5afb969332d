use Rattle.std.proofs.Common.{rules, ◌≡◌, ◌<◌, length, get_or, sym, ◌∙◌, arith}
use Rattle.sock_regs.proofs.Steps.{clears_bits, stores_byte, keeps_all}
use Rattle.sock_regs.proofs.registers.SockRegs.write.Goals as goal

pub returns-then-addr-eq-INTERRUPTS : goal.returns-then-addr-eq-INTERRUPTS
returns-then-addr-eq-INTERRUPTS c = λ f held.
    let len : length c.args.self.now.bytes ≡ 48 = search rules in
    let low : get_or c.args.self.now.bytes 2 0 < 256 = search rules in
    clears_bits c.args.self.now.bytes f c.args.addr c.args.v c.if-addr-eq-INTERRUPTS.true len low (omega (arith, c.ranges.v.fits)) held

pub returns-then-is_stored : goal.returns-then-is_stored
returns-then-is_stored c = λ f held.
    stores_byte c.args.self.now.bytes f c.args.addr c.args.v c.if-addr-eq-INTERRUPTS.false (sym c.is_stored.ensures.stored ∙ c.if-is_stored.true) (search rules) held

pub returns-else-is_stored : goal.returns-else-is_stored
returns-else-is_stored c = λ f held.
    keeps_all c.args.self.now.bytes f c.args.addr c.args.v c.if-addr-eq-INTERRUPTS.false (sym c.is_stored.ensures.stored ∙ c.if-is_stored.false) held

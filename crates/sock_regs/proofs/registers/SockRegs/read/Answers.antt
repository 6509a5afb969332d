use Rattle.std.proofs.Common.{rules, ◌≡◌, length, ℕ, Some, get_or, sym, ap, ◌∙◌, arith}
use Rattle.std.proofs.lemmas.Bool.{cond-true, cond-false}
use Rattle.std.proofs.lemmas.List.{get_or_past}
use Rattle.sock_regs.proofs.PlaceTable.{here_is}
use Rattle.sock_regs.proofs.registers.SockRegs.read.Goals as goal

pub returns-then-not-is_here : goal.returns-then-not-is_here
returns-then-not-is_here c = λ f held.
    sym (cond-false _ _ _ (here_is c.args.addr ∙ sym c.is_here.ensures ∙ c.if-not-is_here.true))

pub returns-then-addr-lt-PLACES : goal.returns-then-addr-lt-PLACES
returns-then-addr-lt-PLACES c = λ f held.
    let here = here_is c.args.addr ∙ sym c.is_here.ensures ∙ c.if-not-is_here.false in
    ap (λ (v : ℕ). Some v) (held c.args.addr here) ∙ sym (cond-true _ _ _ here)

pub returns-else-addr-lt-PLACES : goal.returns-else-addr-lt-PLACES
returns-else-addr-lt-PLACES c = λ f held.
    let here = here_is c.args.addr ∙ sym c.is_here.ensures ∙ c.if-not-is_here.false in
    let len : length c.args.self.now.bytes ≡ 48 = search rules in
    let none : get_or c.args.self.now.bytes c.args.addr 0 ≡ 0 = get_or_past c.args.self.now.bytes c.args.addr 0 (omega (arith, len, c.if-addr-lt-PLACES.false)) in
    ap (λ (v : ℕ). Some v) (sym none ∙ held c.args.addr here) ∙ sym (cond-true _ _ _ here)

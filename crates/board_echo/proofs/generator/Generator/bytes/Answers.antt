use Rattle.std.proofs.Common.{◌≡◌, suc, ◌+◌, ◌-◌, ◌++◌, ap, sym, ◌∙◌, arith, append-nil}
use Rattle.board_echo.specs.Generator.{state_behind, bytes_behind}
use Rattle.board_echo.proofs.Sayings.{next_of_state, next_of_bytes, no_state, no_bytes}
use Rattle.board_echo.proofs.generator.Generator.bytes.Goals as goal

pub loop-i-preserved : goal.loop-i-preserved
loop-i-preserved c =
    let left : c.args.many - c.loop-i.i ≡ suc (c.args.many - (c.loop-i.i + 1)) = omega (arith, c.loop-i-test.true) in
    record {
      state = next_of_state c.byte.new.self.state c.loop-i.self.state (c.args.many - (c.loop-i.i + 1)) (c.args.many - c.loop-i.i) c.byte.ensures.state left ∙ c.loop-i.invariant.state;
      bytes = rw c.in_ok-push.ensures.items (next_of_bytes c.loop-i.bytes.items c.byte.new.self.state c.loop-i.self.state c.byte.result (c.args.many - (c.loop-i.i + 1)) (c.args.many - c.loop-i.i) c.byte.ensures.state c.byte.ensures.byte left ∙ c.loop-i.invariant.bytes);
    }

pub returns-clause-state : goal.returns-clause-state
returns-clause-state c ok =
    let none : c.args.many - c.loop-i.i ≡ 0 = omega (arith, c.loop-i-test.false) in
    sym (no_state c.loop-i.self.state) ∙ ap (λ n. state_behind c.loop-i.self.state n) (sym none) ∙ c.loop-i.invariant.state

pub returns-clause-bytes : goal.returns-clause-bytes
returns-clause-bytes c =
    let none : c.args.many - c.loop-i.i ≡ 0 = omega (arith, c.loop-i-test.false) in
    sym (append-nil c.loop-i.bytes.items) ∙ ap (λ l. c.loop-i.bytes.items ++ l) (sym (no_bytes c.loop-i.self.state))
    ∙ ap (λ n. c.loop-i.bytes.items ++ bytes_behind c.loop-i.self.state n) (sym none) ∙ c.loop-i.invariant.bytes

use Rattle.std.proofs.Common.{ℕ, ◌/◌, ◌<◌, cond, eqb, sym, ap, ◌∙◌, arith}
use Rattle.chip_sheet.specs.Blocks.{registers_of}
use Rattle.chip_parts.proofs.Outcomes.{if_ok, if_err}
use Rattle.chip_parts.proofs.Passing.{own_passed, nothing_passed, is_the_command, is_no_command}
use Rattle.chip_parts.proofs.parts.Parts.write.Goals as goal

pub write_command-requires-clause-few : goal.write_command-requires-clause-few
write_command-requires-clause-few c =
    let below : c.args.bits / 4 < 8 = omega (arith, c.requires.bits) in
    λ other. c.requires.few (c.args.bits / 4) other below

pub returns-then-is_command-clause-ok : goal.returns-then-is_command-clause-ok
returns-then-is_command-clause-ok c =
    let bits = c.args.bits in
    let addr = c.args.addr in
    let v = c.args.v in
    let here = is_the_command bits addr v (sym c.is_command.ensures ∙ c.if-is_command.true) in
    if_ok c.write_command.result _ _ c.write_command.ensures.ok (λ k went. λ starts past e a legal held is.
    let it = went starts past e a legal held (is ∙ here.write) in
    record {
      allowed = it.0;
      passes = λ n. own_passed starts past e a (bits / 4) v k n (is ∙ here.write) it.1 ∙ sym (ap (λ (b : ℕ). cond (eqb b (registers_of n)) k 0) here.block);
      stands = it.2;
    })

pub returns-then-is_command-clause-err : goal.returns-then-is_command-clause-err
returns-then-is_command-clause-err c =
    let here = is_the_command c.args.bits c.args.addr c.args.v (sym c.is_command.ensures ∙ c.if-is_command.true) in
    if_err c.write_command.result _ _ c.write_command.ensures.err (λ s went. (went.0, λ starts past e legal held is. went.1 starts past e legal held (is ∙ here.write)))

pub write_byte-requires-clause-no_command : goal.write_byte-requires-clause-no_command
write_byte-requires-clause-no_command c = is_no_command c.args.bits c.args.addr (sym c.is_command.ensures ∙ c.if-is_command.false)

pub returns-in-Ok-clause-ok : goal.returns-in-Ok-clause-ok
returns-in-Ok-clause-ok c = λ starts past e a legal held is.
    let it = c.in-Ok.ensures.ok starts past e a legal held is in
    record {
      allowed = it.0;
      passes = λ n. nothing_passed starts past e a c.args.bits c.args.addr c.args.v n is (is_no_command c.args.bits c.args.addr (sym c.is_command.ensures ∙ c.if-is_command.false));
      stands = it.1;
    }

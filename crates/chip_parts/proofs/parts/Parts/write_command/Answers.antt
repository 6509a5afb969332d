use Rattle.std.proofs.Common.{sym, ap, ◌∙◌}
use Rattle.chip_parts.specs.Passing.{passed}
use Rattle.chip_parts.proofs.Outcomes.{if_ok, if_err}
use Rattle.chip_parts.proofs.Taking.{byte_is}
use Rattle.chip_parts.proofs.Commands.{quiet_passes}
use Rattle.chip_parts.proofs.SendCommands.{is_send}
use Rattle.chip_parts.proofs.RecvCommands.{is_recv}
use Rattle.chip_parts.proofs.parts.Parts.write_command.Goals as goal

pub returns-then-v-eq-SEND-clause-ok : goal.returns-then-v-eq-SEND-clause-ok
returns-then-v-eq-SEND-clause-ok c = if_ok c.send.result _ _ c.send.ensures.ok (λ k went. λ starts past e a legal held is.
    let sn = c.args.sn in
    let send = byte_is past e sn c.args.v 0x20 c.if-v-eq-SEND.true is in
    let here = went starts past e a legal held send in
    (here.0, here.1 ∙ sym (ap (passed starts past sn) (is_send past e a sn send)), here.2))

pub returns-then-v-eq-SEND-clause-err : goal.returns-then-v-eq-SEND-clause-err
returns-then-v-eq-SEND-clause-err c = if_err c.send.result _ _ c.send.ensures.err (λ s went. (
  went.0,
  λ starts past e legal held is. went.1 starts past e legal held (byte_is past e c.args.sn c.args.v 0x20 c.if-v-eq-SEND.true is),
))

pub returns-in-Err-clause-err : goal.returns-in-Err-clause-err
returns-in-Err-clause-err c = (
  c.in-Err.ensures.err.0,
  λ starts past e legal held is. c.in-Err.ensures.err.1 starts past e legal held (byte_is past e c.args.sn c.args.v 0x40 c.if-v-eq-RECV.true is),
)

pub returns-in-Ok-clause-ok : goal.returns-in-Ok-clause-ok
returns-in-Ok-clause-ok c = λ starts past e a legal held is.
    let sn = c.args.sn in
    let recv = byte_is past e sn c.args.v 0x40 c.if-v-eq-RECV.true is in
    let here = c.in-Ok.ensures.ok starts past e a legal held recv in
    (here.0, sym (ap (passed starts past sn) (is_recv past e a sn recv)), here.1)

pub returns-in-Err-command-clause-err : goal.returns-in-Err-command-clause-err
returns-in-Err-command-clause-err c = (
  c.in-Err-command.ensures.err.0,
  λ starts past e legal held is. c.in-Err-command.ensures.err.1 starts past e held is,
)

pub returns-in-Ok-command-clause-ok : goal.returns-in-Ok-command-clause-ok
returns-in-Ok-command-clause-ok c = λ starts past e a legal held is.
    let here = c.in-Ok-command.ensures.ok starts past e a held is in
    (here.0, quiet_passes starts past e a c.args.sn c.args.v is c.if-v-eq-SEND.false c.if-v-eq-RECV.false, here.1)

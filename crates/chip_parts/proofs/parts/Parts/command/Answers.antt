use Rattle.std.proofs.Common.{◌≡◌, ◌<◌, length, sym, ap, ◌∙◌, arith, set, List}
use Rattle.std.proofs.lemmas.List.{set-get_or}
use Rattle.chip_sheet.specs.declared.event.Entry.TheVariants.{Bus}
use Rattle.chip_steps.proofs.BitSteps.{quiet_raises}
use Rattle.sock_cmd.specs.declared.life.Life.{Life}
use Rattle.chip_parts.proofs.Taking.{other_sockets}
use Rattle.chip_parts.proofs.Commands.{quiet_is, stop_is, command_steps}
use Rattle.chip_parts.proofs.parts.Parts.command.Goals as goal

pub returns-in-Ok-clause-ok : goal.returns-in-Ok-clause-ok
returns-in-Ok-clause-ok c = λ starts past e a held is.
    let sn = c.args.sn in
    let v = c.args.v in
    let old = c.args.self.now in
    let entry = Bus e a in
    let within : sn < length old.lives = omega (arith, c.requires.sn) in
    let at = c.command_at-at.result in
    let found = c.command_at-at.ensures starts past held in
    let life = held.lives sn _ c.requires.sn in
    let shows = c.step_registers.ensures.shows starts past e a (record { registers = held.shows.registers; sir = held.shows.sir }) is
    (sym (quiet_raises starts past entry sn (quiet_is past e a sn v is c.requires.no_send c.requires.no_recv))) (other_sockets past e a sn v is) in (
      stop_is starts past e sn v at _ is c.requires.no_send c.requires.no_recv found life ∙ c.in-Ok.ensures.allowed,
      command_steps starts past e a sn v old c.step_registers.new.self at c.in-Ok.effect c.settle.new.rings _ c.command.new.self c.requires.sn within held is c.requires.no_send c.requires.no_recv found
          life c.in-Ok.ensures.happened c.in-Ok.ensures.effect c.settle.ensures.tx c.settle.ensures.rx c.settle.ensures.others c.settle.ensures.rx_others c.settle.ensures.sizes.0 c.settle.ensures.sizes.1
          shows c.step_registers.ensures.same,
    )

pub returns-in-Err-clause-err : goal.returns-in-Err-clause-err
returns-in-Err-clause-err c =
    let sn = c.args.sn in
    let old = c.args.self.now in
    let back : set old.lives sn c.command.new.self ≡ old.lives = ap (set old.lives sn) c.in-Err.ensures.kept ∙ set-get_or old.lives sn _ in (
      ap (λ (ls : List Life). record old { lives = ls }) back,
      λ starts past e held is.
          stop_is starts past e sn c.args.v c.command_at-at.result _ is c.requires.no_send c.requires.no_recv (c.command_at-at.ensures starts past held) (held.lives sn _ c.requires.sn) ∙ c.in-Err.ensures.stopped,
    )

use Rattle.std.proofs.Common.{◌<◌, ◌∷◌, arith, length}
use Rattle.chip_sheet.specs.declared.event.Entry.TheVariants.{Bus}
use Rattle.chip_sheet.specs.SocketBlock.{socket_register}
use Rattle.chip_parts.proofs.Stepping.{written_reads, all_read, sir_renewed, ir_named, imr_named}
use Rattle.chip_parts.proofs.parts.Parts.step_registers.Goals as goal

pub returns-clause-shows : goal.returns-clause-shows
returns-clause-shows c = λ starts past e a held is raised others.
    let sn = c.args.sn in
    let regs = c.args.self.now.registers in
    let f = socket_register starts (Bus e a ∷ past) sn in
    let own = written_reads starts past e a sn c.args.addr c.args.v c.args.bits _ c.write.new.self c.raise.new.self
    (held.registers sn _ c.requires) c.write.ensures c.raise.ensures is raised in
    let within : sn < length regs = omega (arith, c.requires) in
    record {
      registers = all_read starts past (Bus e a) sn regs c.raise.new.self within own held.registers others;
      sir = sir_renewed starts past (Bus e a) sn c.args.self.now.sir c.sir_with-self.result c.interrupts-ir.result c.mask-imr.result c.requires c.sir_with-self.type_inv held.sir
          (ir_named starts (Bus e a ∷ past) sn c.interrupts-ir.result (c.interrupts-ir.ensures f own)) (imr_named starts (Bus e a ∷ past) sn c.mask-imr.result (c.mask-imr.ensures f own))
          c.sir_with-self.ensures.own c.sir_with-self.ensures.others others;
    }

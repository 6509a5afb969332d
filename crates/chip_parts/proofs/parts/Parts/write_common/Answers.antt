use Rattle.std.proofs.Common.{refl, ap, ◌∙◌}
use Rattle.std.specs.Prelude.{slice_index}
use Rattle.chip_sheet.specs.declared.event.Entry.TheVariants.{Bus}
use Rattle.chip_sheet.specs.Registers.{is_reset, common_register}
use Rattle.chip_steps.proofs.Elsewhere.{any_common}
use Rattle.common_regs.specs.declared.registers.CommonRegs.{CommonRegs}
use Rattle.common_regs.proofs.Steps.{writes}
use Rattle.chip_parts.specs.declared.parts.Parts.{Parts}
use Rattle.chip_parts.proofs.Buffers.{sockets_stay}
use Rattle.chip_parts.proofs.Resetting.{reset_steps, is_a_reset, is_plain, plain_goes, reset_goes, pppoe_stops}
use Rattle.chip_parts.proofs.parts.Parts.write_common.Goals as goal

pub returns-in-Plain-clause-ok : goal.returns-in-Plain-clause-ok
returns-in-Plain-clause-ok c = λ starts past e a held is.
    let addr = c.args.addr in
    let v = c.args.v in
    let on = is_plain addr v c.in-Plain.ensures.wrote in (
      plain_goes starts past e addr v is c.in-Plain.ensures.wrote,
      sockets_stay starts past (Bus e a) c.args.self.now c.write.new.self held
          (λ at. c.in-Plain.ensures.stands (λ z. cc) (common_register past) held.common at ∙ writes past e a addr v at is)
          (λ m. any_common past e a m addr v is on),
    )

pub returns-in-Pppoe-clause-err : goal.returns-in-Pppoe-clause-err
returns-in-Pppoe-clause-err c = (
  ap (λ (r : CommonRegs). record c.args.self.now { common = r }) (c.in-Pppoe.ensures.pppoe refl),
  λ starts past e held is. pppoe_stops starts past e c.args.addr c.args.v is c.in-Pppoe.ensures.wrote,
)

pub returns-in-Reset-clause-ok : goal.returns-in-Reset-clause-ok
returns-in-Reset-clause-ok c = λ starts past e a held is.
    let addr = c.args.addr in
    let v = c.args.v in
    let new = c.reset.new.self in
    let same = c.reset.ensures.same in
    let resets = is_a_reset addr v c.in-Reset.ensures.wrote in (
      reset_goes starts past e addr v is c.in-Reset.ensures.wrote,
      reset_steps starts past (Bus e a) c.args.self.now new held (ap is_reset is ∙ resets)
          (λ at. ap (λ (p : Parts). slice_index p.common.bytes at) same ∙ c.in-Reset.ensures.stands (λ z. cc) (common_register past) held.common at ∙ writes past e a addr v at is)
          (record {
            tx_start = ap (λ (p : Parts). p.tx_start) same;
            rx_start = ap (λ (p : Parts). p.rx_start) same;
            registers = c.reset.ensures.registers;
            lives = c.reset.ensures.lives;
            sir = ap (λ (p : Parts). p.sir) same;
            tx = c.reset.ensures.tx;
            rx = c.reset.ensures.rx;
            tx_sizes = c.reset.ensures.sizes.0;
            rx_sizes = c.reset.ensures.sizes.1;
          }),
    )

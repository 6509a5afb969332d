use Rattle.std.proofs.Common.{◌<◌, ℕ, ◌/◌, sym, ap, ◌∙◌, arith}
use Rattle.chip_sheet.specs.declared.block.Block.{Block}
use Rattle.chip_sheet.specs.Answers.{byte_at}
use Rattle.chip_sheet.specs.Blocks.{block_of}
use Rattle.chip_sheet.specs.Buffers.{sending, receiving}
use Rattle.chip_sheet.specs.Registers.{common_register}
use Rattle.common_regs.specs.Places.{read_at}
use Rattle.common_regs.proofs.Steps.{reads}
use Rattle.chip_steps.proofs.WindowSteps.{rx_byte_is}
use Rattle.chip_parts.proofs.Reading.{registers_block, tx_block, rx_block, no_block}
use Rattle.chip_parts.proofs.parts.Parts.read.Goals as goal

pub returns-then-bits-eq0 : goal.returns-then-bits-eq0
returns-then-bits-eq0 c = λ starts past legal holds.
    c.read.ensures (common_register past) holds.common
    ∙ ap (λ (sir : ℕ). read_at (common_register past) sir c.args.addr) holds.shows.sir
    ∙ reads starts past c.args.addr
    ∙ sym (ap (λ (bits : ℕ). byte_at starts past (block_of bits) c.args.addr) c.if-bits-eq0.true)

pub returns-then-kind-eq1 : goal.returns-then-kind-eq1
returns-then-kind-eq1 c = λ starts past legal holds.
    c.read_register.ensures starts past holds ∙ sym (ap (λ (b : Block). byte_at starts past b c.args.addr) (registers_block c.args.bits c.if-kind-eq1.true))

pub returns-then-kind-eq2 : goal.returns-then-kind-eq2
returns-then-kind-eq2 c = λ starts past legal holds.
    let sn = c.args.bits / 4 in
    let below : sn < 8 = omega (arith, c.requires) in
    c.tx_read.ensures (sending starts past sn) (holds.tx sn below) ∙ sym (ap (λ (b : Block). byte_at starts past b c.args.addr) (tx_block c.args.bits c.if-kind-eq2.true))

pub returns-then-kind-eq3 : goal.returns-then-kind-eq3
returns-then-kind-eq3 c = λ starts past legal holds.
    let sn = c.args.bits / 4 in
    let below : sn < 8 = omega (arith, c.requires) in
    c.rx_read.ensures (receiving starts past sn) (holds.rx sn below) ∙ rx_byte_is starts past sn c.args.addr legal
    ∙ sym (ap (λ (b : Block). byte_at starts past b c.args.addr) (rx_block c.args.bits c.if-kind-eq3.true))

pub returns-else-kind-eq3 : goal.returns-else-kind-eq3
returns-else-kind-eq3 c = λ starts past legal holds.
    sym (ap (λ (b : Block). byte_at starts past b c.args.addr) (no_block c.args.bits c.if-bits-eq0.false c.if-kind-eq1.false c.if-kind-eq2.false c.if-kind-eq3.false))

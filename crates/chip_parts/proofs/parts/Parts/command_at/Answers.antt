use Rattle.std.proofs.Common.{refl, ◌∙◌, ◌&&◌}
use Rattle.chip_sheet.specs.Sizes.{are_valid}
use Rattle.chip_sheet.specs.SocketBlock.{socket_register}
use Rattle.sock_regs.proofs.History.{by_name}
use Rattle.chip_parts.proofs.parts.Parts.command_at.Goals as goal

pub returns : goal.returns
returns c = λ starts past held.
    let sn = c.args.sn in
    let f = socket_register starts past sn in
    let reads = held.shows.registers sn _ c.requires in
    record {
      sn = refl;
      mode = c.mode.ensures f reads ∙ (by_name starts past sn).mode;
      port = c.port.ensures f reads ∙ (by_name starts past sn).port;
      to = c.destination.ensures f reads ∙ (by_name starts past sn).destination;
      valid = c.sizes_valid.ensures ∙ (λ i. are_valid (held.tx_sizes i) && are_valid (held.rx_sizes i));
    }

use Rattle.std.proofs.Common.{refl}
use Rattle.chip_sheet.specs.declared.event.Entry.TheVariants.{Rest}
use Rattle.chip_core.proofs.laws.rest_stands.Goals as goal

pub returns : goal.returns
returns c = λ starts chip past stands. record {
  legal = (tt, stands.legal);
  framer = stands.framer;
  parts = c.untouched_parts.ensures starts past Rest chip.parts stands.parts refl (λ m. record { nothing = refl; registers = refl; buffer = refl; tx_sizes = refl; rx_sizes = refl });
  counts = λ n other below. let counted = stands.counts n other below in record { sent = counted.sent; taken = counted.taken; got = counted.got };
}

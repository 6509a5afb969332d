use Rattle.std.proofs.Common.{ap, arith}
use Rattle.chip_sheet.specs.Life.{Life}
use Rattle.chip_sheet.proofs.LivesLaws.{lives_few}
use Rattle.chip_steps.proofs.OverLives.{sent_few, got_few, taken_few}
use Rattle.chip_core.proofs.laws.short_is_few.Goals as goal

pub returns : goal.returns
returns c = λ starts chip past stands short. record {
  lives = λ n other below.
      let is = ap (λ (at : Life). at.lives) (stands.parts.lives n other below).life in
      let few = lives_few past n in
      omega (arith, is, few, short);
  counts = λ n other below.
      let counted = stands.counts n other below in
      let sent = sent_few starts past n below stands.legal in
      let taken = taken_few starts past n stands.legal in
      let got = got_few starts past n stands.legal in
      record {
        sent = omega (arith, counted.sent, sent, short);
        taken = omega (arith, counted.taken, taken, sent, short);
        got = omega (arith, counted.got, got, short);
      };
  windows = c.closed_is_empty.ensures starts past chip.parts stands.parts;
}

use Rattle.std.proofs.Common.{refl}
use Rattle.chip_core.proofs.laws.room_is_lent.Goals as goal

pub returns-clause-stands : goal.returns-clause-stands
returns-clause-stands c = λ starts chip past n w below same stands. record {
  legal = stands.legal;
  framer = stands.framer;
  parts = c.room_is_lent.ensures.holds starts past chip.parts n w below stands.parts same;
  counts = stands.counts;
}

pub returns-clause-bytes : goal.returns-clause-bytes
returns-clause-bytes c = λ chip n w below same. c.room_is_lent.ensures.bytes chip.parts n w below same

pub returns-clause-len : goal.returns-clause-len
returns-clause-len c = λ chip n m w. refl

pub returns-clause-few : goal.returns-clause-few
returns-clause-few c = λ chip n w few. record { lives = few.lives; counts = few.counts; windows = few.windows }

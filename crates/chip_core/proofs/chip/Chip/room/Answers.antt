use Rattle.std.proofs.Common.{refl}
use Rattle.chip_core.proofs.chip.Chip.room.Goals as goal

pub returns : goal.returns
returns c = (
  (refl, λ w. refl),
  record {
    writes_back = tt;
    value = c.room.ensures.value;
    len = c.room.ensures.len;
    room = λ starts past stands on. c.room.ensures.exact starts past stands.parts on;
  },
)

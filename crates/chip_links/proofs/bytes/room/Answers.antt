use Rattle.std.proofs.Common.{refl, ◌∙◌}
use Rattle.chip_sheet.specs.Buffers.{receiving}
use Rattle.chip_steps.proofs.WindowSteps as steps
use Rattle.ring_mem.specs.RxHolds.{rx_part}
use Rattle.ring_mem.proofs.Rooms as rooms
use Rattle.chip_links.proofs.bytes.room.Goals as goal

pub returns : goal.returns
returns c =
    let sn = c.args.sn in
    let rx = c.args.parts.now.rings.rx in (
      (refl, λ w. refl),
      record {
        writes_back = _;
        value = c.room.ensures.value;
        len = c.room.ensures.len;
        exact = λ starts past held live.
            c.room.ensures.len
            ∙ rooms.room_is (rx_part rx sn) rx.memory.items (receiving starts past sn) (rx.layout.sized sn) (held.rx sn c.requires)
            ∙ steps.room_is starts past sn live;
      },
    )

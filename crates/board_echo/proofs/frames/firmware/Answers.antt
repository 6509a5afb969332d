use Rattle.std.proofs.Common.{ap, ◌∙◌, arith, length}
use Rattle.board_echo.proofs.Firmware.{firmware_length}
use Rattle.board_echo.proofs.frames.firmware.Goals as goal

pub image_of-requires : goal.image_of-requires
image_of-requires c =
    let all = firmware_length c.args.events.now in
    let long = ap length (c.deref.ensures.value ∙ c.in_ok-words.ensures) in
    omega (arith, all, long, c.requires.all, c.requires.few)

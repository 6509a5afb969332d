use Rattle.std.proofs.Common.{refl, arith}
use Rattle.board_echo.proofs.Firmware.{firmware_length}
use Rattle.board_echo.proofs.frames.frames_image.Goals as goal

pub returns-in_default-clause-too_long : goal.returns-in_default-clause-too_long
returns-in_default-clause-too_long c =
    let all = firmware_length c.args.events.now in
    (λ e. omega (arith, all, c.in_default.ensures.long refl), λ h. refl)

pub returns-in-Ok-clause-too_long : goal.returns-in-Ok-clause-too_long
returns-in-Ok-clause-too_long c =
    let all = firmware_length c.args.events.now in
    (λ e. absurd (cc), λ h. absurd (omega (arith, all, h, c.in-Some.ensures.fits.0, c.in-Some.ensures.fits.1)))

pub returns-in-Err-clause-too_long : goal.returns-in-Err-clause-too_long
returns-in-Err-clause-too_long c =
    let all = firmware_length c.args.events.now in
    (λ e. absurd (cc), λ h. absurd (omega (arith, all, h, c.in-Some.ensures.fits.0, c.in-Some.ensures.fits.1)))

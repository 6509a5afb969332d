use Rattle.std.proofs.Common.{subst, IfOk, ◌≡◌}
use Rattle.board_echo.specs.Assembly.{image_of}
use Rattle.board_echo.proofs.Listings.{echo_is}
use Rattle.board_echo.proofs.words.echo_image.Goals as goal

pub returns : goal.returns
returns c = subst (λ words. IfOk c.image_of.result (λ image. image ≡ image_of words)) echo_is c.image_of.ensures

use Rattle.board_echo.proofs.Listings.{echo_decodes}
use Rattle.board_echo.proofs.laws.echo_decodes.Goals as goal

pub returns : goal.returns
returns c = echo_decodes

use Rattle.board_echo.proofs.Decodes.{frames_decode}
use Rattle.board_echo.proofs.laws.frames_decode.Goals as goal

pub returns : goal.returns
returns c = frames_decode

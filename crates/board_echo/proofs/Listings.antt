-- The words of the listings, computed.
use Rattle.std.proofs.Common.{◌≡◌, ℕ, refl, map}
use Rattle.std.specs.Prelude.{Ok}
use Rattle.avr_table.specs.Decoded.{decoded}
use Rattle.board_echo.specs.Assembly.{instrs_of}
use Rattle.board_echo.specs.Echo.{echo_lines, echo_words}
use Rattle.board_echo.specs.declared.words.TheConstants.{ECHO}

pub echo_is : ECHO ≡ echo_words
unfolding echo_words echo_lines
echo_is = refl

pub echo_decodes : (next : ℕ) → map (λ w. decoded w next) echo_words ≡ map Ok (instrs_of echo_lines)
unfolding echo_words echo_lines decoded
echo_decodes next = refl

-- Tokens of scripts: L and H, the select line going low and high, two hexadecimal digits, a byte, ?, a look, and link tokens.
use Rattle.std.specs.Prelude.{ℕ, Bool, true, false, not, ◌==◌, List, [], ◌∷◌, filter, length, slice_index, Option, None, Some, Result, Ok, Err, if◌then◌else◌}
use Rattle.std.specs.List.{slice_split}
use Rattle.hex.specs.Hex.{decode_sized}
use Rattle.hex.specs.declared.error.FromHexError.{FromHexError}
use Rattle.board_bus.specs.declared.event.BusEvent.TheVariants.{Select, Byte, Look}
use Rattle.chip_sheet.specs.Replay.{Step, Asks}
use Rattle.board_read.specs.Lists.{each}
use Rattle.board_gen.specs.Links.{link}

-- The tokens of one byte: 76 is L, 72 is H, 63 is ?.
abbrev pub letter : ℕ → Option Step
letter c =
    if c == 76 then Some (Asks (Select true)) else
    if c == 72 then Some (Asks (Select false)) else
    if c == 63 then Some (Asks Look) else None

abbrev pub byte_read : Result (List ℕ) FromHexError → Option Step
byte_read (Ok bytes) = Some (Asks (Byte (slice_index bytes 0)))
byte_read (Err e) = None

-- The step of a token, if it is one.
abbrev pub token_step : List ℕ → Option Step
token_step [] = None
token_step (c ∷ []) = letter c
token_step (a ∷ b ∷ []) = byte_read (decode_sized (a ∷ b ∷ []) 1)
token_step (a ∷ b ∷ c ∷ more) = link (a ∷ b ∷ c ∷ more)

abbrev pub is_token : List ℕ → Bool
is_token text = not (length text == 0)

-- The tokens of a line stand between spaces: 32 is a space.
abbrev pub tokens : List ℕ → List (List ℕ)
tokens line = filter is_token (slice_split (λ b. b == 32) line)

-- The steps of tokens, where each is one.
abbrev pub steps : List (List ℕ) → Option (List Step)
steps words = each token_step words

-- The steps of a line, where each of its tokens is one.
abbrev pub line_steps : List ℕ → Option (List Step)
line_steps line = steps (tokens line)

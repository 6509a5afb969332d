-- The lines of a trace: what happened, as each says it.
use Rattle.std.specs.Prelude.{ℕ, Bool, true, false, ◌==◌, List, [], ◌∷◌, slice_index, Option, None, Some, option_map, Result, Ok, Err, if◌then◌else◌}
use Rattle.hex.specs.Hex.{decode_sized}
use Rattle.hex.specs.declared.error.FromHexError.{FromHexError}
use Rattle.board_bus.specs.declared.event.BusEvent.TheVariants.{Select, Byte, Look}
use Rattle.board_bus.specs.declared.event.BusAnswer.TheVariants.{Done, Out, Level}
use Rattle.chip_sheet.specs.declared.event.Entry.{Entry}
use Rattle.chip_sheet.specs.declared.event.Entry.TheVariants.{Bus, Link, Rest}
use Rattle.chip_sheet.specs.Replay.{Step, Asks, Happens}
use Rattle.board_gen.specs.Links.{link}

-- The lines of one byte: 76 is L and 72 is H, the select line going low and high; 46 is a dot, a turn in which nothing happened.
abbrev pub letter : ℕ → Option Entry
letter c =
    if c == 76 then Some (Bus (Select true) Done) else
    if c == 72 then Some (Bus (Select false) Done) else
    if c == 46 then Some Rest else None

-- The level of the interrupt line: 49 is 1, high, and 48 is 0, low.
abbrev pub level : ℕ → Option Bool
level c = if c == 49 then Some true else if c == 48 then Some false else None

abbrev pub look_of : Bool → Entry
look_of high = Bus Look (Level high)

-- `?1` and `?0`: 63 is ?.
abbrev pub look : ℕ → ℕ → Option Entry
look mark c = if mark == 63 then option_map look_of (level c) else None

abbrev pub byte_of : Result (List ℕ) FromHexError → Option ℕ
byte_of (Ok bytes) = Some (slice_index bytes 0)
byte_of (Err e) = None

-- The byte of two hexadecimal digits.
abbrev pub two_digits : List ℕ → Option ℕ
two_digits text = byte_of (decode_sized text 1)

abbrev pub exchanged : Option ℕ → Option ℕ → Option Entry
exchanged (Some v) (Some out) = Some (Bus (Byte v) (Out out))
exchanged sent answer = None

-- `XX>YY`, the byte on MOSI and the one on MISO: 62 is >.
abbrev pub exchange : List ℕ → Option Entry
exchange [] = None
exchange (a ∷ []) = None
exchange (a ∷ b ∷ []) = None
exchange (a ∷ b ∷ mark ∷ []) = None
exchange (a ∷ b ∷ mark ∷ c ∷ []) = None
exchange (a ∷ b ∷ mark ∷ c ∷ d ∷ []) =
    if mark == 62 then exchanged (two_digits (a ∷ b ∷ [])) (two_digits (c ∷ d ∷ [])) else None
exchange (a ∷ b ∷ mark ∷ c ∷ d ∷ e ∷ more) = None

-- What a link did, as scripts have it.
abbrev pub happened : Option Step → Option Entry
happened (Some (Happens n what)) = Some (Link n what)
happened (Some (Asks e)) = None
happened None = None

abbrev pub longer : Option Entry → Option Step → Option Entry
longer (Some entry) step = Some entry
longer None step = happened step

-- The entry of a line, if it is one. A longer line is an exchange of bytes or a link token.
abbrev pub entry_read : List ℕ → Option Entry
entry_read [] = None
entry_read (c ∷ []) = letter c
entry_read (mark ∷ c ∷ []) = look mark c
entry_read (a ∷ b ∷ c ∷ more) = longer (exchange (a ∷ b ∷ c ∷ more)) (link (a ∷ b ∷ c ∷ more))

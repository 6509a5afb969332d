-- What stands in a history of the connections of a socket, each named by the number of its life, and counts over all lives.
use Rattle.std.specs.Prelude.{ℕ, zero, suc, ◌+◌, Bool, true, false, ◌==◌, ◌&&◌, ◌||◌, [], ◌∷◌, length, Option, Some, None}
use Rattle.chip_sheet.specs.declared.event.Entry.TheVariants.{Bus, Link, Rest}
use Rattle.chip_sheet.specs.declared.event.LinkEntry.{LinkEntry}
use Rattle.chip_sheet.specs.declared.event.LinkEntry.TheVariants.{Took, Got, Datagram, Dropped}
use Rattle.chip_sheet.specs.Past.{Past}
use Rattle.chip_sheet.specs.Life.{lives, old}
use Rattle.chip_sheet.specs.Streams.{Starts, is_of, sent, taken, got}

abbrev pub is_drop : LinkEntry → Bool
is_drop Dropped = true
is_drop what = false

abbrev pub is_life : ℕ → Option ℕ → Bool
is_life life None = false
is_life life (Some other) = other == life

-- The link forgot this life: a drop came while it was the one that the link was still to forget.
abbrev pub is_dropped : Past → ℕ → ℕ → Bool
is_dropped [] n life = false
is_dropped (Link m what ∷ past) n life = (is_drop what && m == n && is_life life (old past n)) || is_dropped past n life
is_dropped (Bus e a ∷ past) n life = is_dropped past n life
is_dropped (Rest ∷ past) n life = is_dropped past n life

abbrev pub carries : LinkEntry → Bool
carries (Took count) = true
carries (Got bytes) = true
carries (Datagram from body) = true
carries what = false

-- The link carried something of this life: bytes that it took, bytes that it brought, or a datagram, which may be empty.
abbrev pub is_carried : Past → ℕ → ℕ → Bool
is_carried [] n life = false
is_carried (Link m what ∷ past) n life = (carries what && is_of past m n life) || is_carried past n life
is_carried (Bus e a ∷ past) n life = is_carried past n life
is_carried (Rest ∷ past) n life = is_carried past n life

-- A number of each life from 1 to this one, added up.
abbrev pub over_lives : (ℕ → ℕ) → ℕ → ℕ
over_lives count zero = 0
over_lives count (suc life) = over_lives count life + count (suc life)

-- How many bytes were passed to SEND, taken and received in all lives of socket n.
abbrev pub sent_in_all : Starts → Past → ℕ → ℕ
sent_in_all starts past n = over_lives (λ life. length (sent starts past n life)) (lives past n)

abbrev pub taken_in_all : Past → ℕ → ℕ
taken_in_all past n = over_lives (taken past n) (lives past n)

abbrev pub got_in_all : Starts → Past → ℕ → ℕ
got_in_all starts past n = over_lives (λ life. length (got starts past n life)) (lives past n)

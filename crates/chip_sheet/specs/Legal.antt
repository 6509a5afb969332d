-- Histories that the datasheet allows.
use Rattle.std.specs.Prelude.{◌≡◌, ◌<◌, ℕ, suc, true, None, Some, [], ◌∷◌, drop, slice_get}
use Rattle.chip_sheet.specs.declared.event.Entry.{Entry}
use Rattle.chip_sheet.specs.declared.event.Entry.TheVariants.{Bus, Link, Rest}
use Rattle.chip_sheet.specs.Past.{Past}
use Rattle.chip_sheet.specs.Streams.{Starts}
use Rattle.chip_sheet.specs.Answers.{answer}
use Rattle.chip_sheet.specs.Stops.{stop}
use Rattle.chip_sheet.specs.LinkCalls.{fits}

-- An entry may come after this past: an event of the bus that has no stop, with the chip's answer; a link event of one of the
-- eight sockets that fits; a turn in which nothing happened, always.
abbrev pub FitsAfter : Starts → Past → Entry → Type 0
FitsAfter starts past (Bus e a) = (stop starts past e ≡ None) × (a ≡ answer starts past e)
FitsAfter starts past (Link n what) = (n < 8) × (fits starts past n what ≡ true)
FitsAfter starts past Rest = Unit {0}

-- Each entry fits what came before it.
abbrev pub Legal : Starts → Past → Type 0
Legal starts [] = Unit {0}
Legal starts (entry ∷ past) = FitsAfter starts past entry × Legal starts past

-- The same, place by place: what came before the entry at place i stands behind it.
abbrev pub LegalAtEach : Starts → Past → Type 0
LegalAtEach starts past =
    (i : ℕ) (entry : Entry) → slice_get past i ≡ Some entry → FitsAfter starts (drop (suc i) past) entry

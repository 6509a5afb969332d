-- Entries whose numbers fit the types that a program has for them.
use Rattle.std.specs.Prelude.{◌<◌, ◌^◌, ℕ, List, [], ◌∷◌}
use Rattle.board_bus.specs.declared.event.BusEvent.{BusEvent}
use Rattle.board_bus.specs.declared.event.BusEvent.TheVariants.{Select, Byte, Look}
use Rattle.board_bus.specs.declared.event.BusAnswer.{BusAnswer}
use Rattle.board_bus.specs.declared.event.BusAnswer.TheVariants.{Done, Out, Level}
use Rattle.chip_sheet.specs.declared.event.Addr.{Addr}
use Rattle.chip_sheet.specs.declared.event.LinkEntry.{LinkEntry}
use Rattle.chip_sheet.specs.declared.event.LinkEntry.TheVariants.{Linked, Accepted, Refused, TimedOut, Took, Got, Datagram, Ended, Shut, Failed, Dropped}
use Rattle.chip_sheet.specs.declared.event.Entry.{Entry}
use Rattle.chip_sheet.specs.declared.event.Entry.TheVariants.{Bus, Link, Rest}
use Rattle.chip_sheet.specs.Past.{Past}
use Rattle.chip_sheet.specs.Streams.{Starts}

-- Each is below 256.
abbrev pub AreBytes : List ℕ → Type 0
AreBytes [] = Unit {0}
AreBytes (v ∷ more) = (v < 256) × AreBytes more

-- Four bytes.
abbrev pub AreFour : List ℕ → Type 0
AreFour [] = ⊥
AreFour (a ∷ []) = ⊥
AreFour (a ∷ b ∷ []) = ⊥
AreFour (a ∷ b ∷ c ∷ []) = ⊥
AreFour (a ∷ b ∷ c ∷ d ∷ []) = AreBytes (a ∷ b ∷ c ∷ d ∷ [])
AreFour (a ∷ b ∷ c ∷ d ∷ e ∷ more) = ⊥

abbrev pub IsAddress : Addr → Type 0
IsAddress from = AreFour from.ip × (from.port < 2 ^ 16)

abbrev pub FitsWhat : LinkEntry → Type 0
FitsWhat (Accepted from) = IsAddress from
FitsWhat (Took count) = count < 2 ^ 32
FitsWhat (Got bytes) = AreBytes bytes
FitsWhat (Datagram from bytes) = IsAddress from × AreBytes bytes
FitsWhat Linked = Unit {0}
FitsWhat Refused = Unit {0}
FitsWhat TimedOut = Unit {0}
FitsWhat Ended = Unit {0}
FitsWhat Shut = Unit {0}
FitsWhat Failed = Unit {0}
FitsWhat Dropped = Unit {0}

abbrev pub FitsEvent : BusEvent → Type 0
FitsEvent (Byte v) = v < 256
FitsEvent (Select low) = Unit {0}
FitsEvent Look = Unit {0}

abbrev pub FitsAnswer : BusAnswer → Type 0
FitsAnswer (Out v) = v < 256
FitsAnswer Done = Unit {0}
FitsAnswer (Level high) = Unit {0}

abbrev pub Fits : Entry → Type 0
Fits (Bus e a) = FitsEvent e × FitsAnswer a
Fits (Link n what) = FitsWhat what
Fits Rest = Unit {0}

-- Each entry does.
abbrev pub AllFit : Past → Type 0
AllFit [] = Unit {0}
AllFit (entry ∷ past) = Fits entry × AllFit past

abbrev pub StartsFit : Starts → Type 0
StartsFit starts = (starts.tx < 2 ^ 16) × (starts.rx < 2 ^ 16)

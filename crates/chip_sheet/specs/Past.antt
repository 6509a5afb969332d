-- What happened before a moment, as lists: an event of the program lends its bytes, an entry has them. Every definition of the
-- chip looks back over it.
use Rattle.std.specs.Prelude.{◌≡◌, ℕ, List, [], ◌∷◌, ◌++◌}
use Rattle.board_bus.specs.declared.event.BusEvent.{BusEvent}
use Rattle.board_bus.specs.declared.event.BusAnswer.{BusAnswer}
use Rattle.chip_sheet.specs.declared.event.LinkWhat.{LinkWhat}
use Rattle.chip_sheet.specs.declared.event.LinkWhat.TheVariants as what
use Rattle.chip_sheet.specs.declared.event.Event.{Event}
use Rattle.chip_sheet.specs.declared.event.Event.TheVariants as event
use Rattle.chip_sheet.specs.declared.event.LinkEntry.{LinkEntry}
use Rattle.chip_sheet.specs.declared.event.LinkEntry.TheVariants.{Linked, Accepted, Refused, TimedOut, Took, Got, Datagram, Ended, Shut, Failed, Dropped}
use Rattle.chip_sheet.specs.declared.event.Entry.{Entry}
use Rattle.chip_sheet.specs.declared.event.Entry.TheVariants.{Bus, Link, Rest}

-- What happened before a moment, the newest first.
abbrev pub Past : Type 0
Past = List Entry

-- What a link did, with the bytes that the program lends.
abbrev pub link_entry : LinkWhat → LinkEntry
link_entry what.Linked = Linked
link_entry (what.Accepted from) = Accepted from
link_entry what.Refused = Refused
link_entry what.TimedOut = TimedOut
link_entry (what.Took count) = Took count
link_entry (what.Got bytes) = Got bytes.now
link_entry (what.Datagram from bytes) = Datagram from bytes.now
link_entry what.Ended = Ended
link_entry what.Shut = Shut
link_entry what.Failed = Failed
link_entry what.Dropped = Dropped

-- The entry that an event of the program stands for.
abbrev pub entry_of : Event → Entry
entry_of (event.Bus e a) = Bus e a
entry_of (event.Link n w) = Link n (link_entry w)
entry_of event.Rest = Rest

-- The newer past goes on from the older one: the older one is what had happened at an earlier moment.
abbrev pub GoesOn : Past → Past → Type 0
GoesOn older newer = (more : Past) × (newer ≡ more ++ older)

-- The events of the bus with their answers, the oldest first.
abbrev pub exchanges : Past → List (BusEvent × BusAnswer)
exchanges [] = []
exchanges (Bus e a ∷ past) = exchanges past ++ (e, a) ∷ []
exchanges (Link n what ∷ past) = exchanges past
exchanges (Rest ∷ past) = exchanges past

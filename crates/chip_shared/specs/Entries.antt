-- The entry that an answer of the links comes to in the program, and what a step says of it.
use Rattle.std.specs.Prelude.{ℕ, Option, Some, None}
use Rattle.chip_sheet.specs.declared.event.LinkWhat.{LinkWhat}
use Rattle.chip_sheet.specs.declared.event.LinkWhat.TheVariants.{Failed}
use Rattle.chip_sheet.specs.declared.event.Entry.{Entry}
use Rattle.chip_sheet.specs.declared.event.Entry.TheVariants.{Link, Rest}
use Rattle.chip_sheet.specs.Past.{link_entry}
use Rattle.chip_shared.specs.declared.shared.LinkDid.{LinkDid}
use Rattle.chip_shared.specs.declared.shared.LinkDid.TheVariants as did

-- The entry of socket n where its link did this; a turn in which nothing happened where it did nothing.
abbrev pub entry_for : ℕ → Option LinkWhat → Entry
entry_for n None = Rest
entry_for n (Some what) = Link n (link_entry what)

abbrev pub did_for : ℕ → Option LinkWhat → LinkDid
did_for place None = did.NotYet place
did_for place (Some Failed) = did.Fault place
did_for place (Some what) = did.Did place
